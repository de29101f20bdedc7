use Rattle.std.proofs.Common.{◌≡◌, length, map, take}
use Rattle.jd_lex.specs.View.{tokens_view}
use Rattle.jd_syntax.specs.SpecTrees.{spec_block_view}
use Rattle.jd_jmlparse.specs.Filled.{bare_block}
use Rattle.jd_jmlparse.specs.Filling.{Goes}
use Rattle.jd_jmlparse.proofs.fill.blocks.fill_blocks.Given as goal

abbrev pub invariant-loop-i : goal.invariant-loop-i
invariant-loop-i l =
    (length l.blocks ≡ length l.fn.blocks)
    × (map bare_block (map spec_block_view l.blocks) ≡ map bare_block (map spec_block_view l.fn.blocks))
    × Goes (tokens_view l.tokens) l.fn.first (map spec_block_view (take l.i l.blocks)) l.first
