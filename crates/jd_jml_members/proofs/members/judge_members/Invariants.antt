use Rattle.std.proofs.Common.{◌≡◌, drop, map, option_map}
use Rattle.std.specs.Option.{option_copied}
use Rattle.jd_specifications.specs.Refused as plain
use Rattle.jd_syntax.specs.JavaTrees.{member_view}
use Rattle.jd_syntax.specs.SpecTrees.{spec_block_view}
use Rattle.jd_jml_members.proofs.members.judge_members.Given as goal

-- what is left decides
abbrev pub invariant-loop-m : goal.invariant-loop-m
invariant-loop-m g l =
    plain.members (g.D.Declares.declarations l.d) l.class (map member_view l.members) (option_map spec_block_view (option_copied l.end))
    ≡ plain.members (g.D.Declares.declarations l.d) l.class (map member_view (drop l.m-index l.members)) (option_map spec_block_view (option_copied l.end))
