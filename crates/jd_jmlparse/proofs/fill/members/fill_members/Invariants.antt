use Rattle.std.proofs.Common.{◌≡◌, length, map, take}
use Rattle.std.specs.List.{flat_map}
use Rattle.jd_lex.specs.View.{tokens_view}
use Rattle.jd_syntax.specs.JavaTrees.{member_view}
use Rattle.jd_jmlparse.specs.Filled.{bare_member, member_blocks}
use Rattle.jd_jmlparse.specs.Filling.{Goes}
use Rattle.jd_jmlparse.proofs.fill.members.fill_members.Given as goal

abbrev pub invariant-loop-i : goal.invariant-loop-i
invariant-loop-i l =
    (length l.members ≡ length l.fn.members)
    × (map bare_member (map member_view l.members) ≡ map bare_member (map member_view l.fn.members))
    × Goes (tokens_view l.tokens) l.fn.first (flat_map member_blocks (map member_view (take l.i l.members))) l.first
