use Rattle.std.proofs.Common.{◌<◌, [], ◌∷◌, map, refl, subst, sym, ◌∙◌}
use Rattle.std.proofs.lemmas.List.{length-set}
use Rattle.jd_syntax.specs.SpecTrees.{spec_block_view}
use Rattle.jd_jmlparse.specs.Filled.{bare_block}
use Rattle.jd_jmlparse.proofs.Loops.{goes_more, set_same}
use Rattle.jd_jmlparse.proofs.fill.blocks.fill_blocks.Goals as goal

pub loop-i-preserved : goal.loop-i-preserved
loop-i-preserved c =
    let inv = c.loop-i.invariant in (
      length-set c.loop-i.blocks c.loop-i.i c.fill_block-first.new.block ∙ inv.0,
      set_same (λ xs. map bare_block (map spec_block_view xs)) (◌∷◌) (λ x. bare_block (spec_block_view x)) (λ x xs. refl) c.loop-i.blocks c.loop-i.i c.fill_block-first.new.block c.index-blocks-i.result c.fill_block-first.ensures.same ∙ inv.1,
      goes_more (map spec_block_view) (λ x. spec_block_view x ∷ []) refl (λ x xs. refl) _ _ _ _ c.loop-i.blocks c.loop-i.i c.fill_block-first.new.block (subst (λ n. c.loop-i.i < n) (sym inv.0) c.loop-i-test.true) inv.2 c.fill_block-first.ensures.goes,
    )
