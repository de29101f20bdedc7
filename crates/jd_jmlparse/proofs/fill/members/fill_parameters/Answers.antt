use Rattle.std.proofs.Common.{◌<◌, ◌∷◌, map, refl, subst, sym, ◌∙◌}
use Rattle.std.proofs.lemmas.List.{length-set}
use Rattle.std.specs.List.{flat_map}
use Rattle.jd_syntax.specs.JavaTrees.{parameter_view}
use Rattle.jd_jmlparse.specs.Filled.{bare_parameter, parameter_blocks}
use Rattle.jd_jmlparse.proofs.Loops.{goes_more, set_same}
use Rattle.jd_jmlparse.proofs.fill.members.fill_parameters.Goals as goal

pub loop-i-preserved : goal.loop-i-preserved
loop-i-preserved c =
    let inv = c.loop-i.invariant in (
      length-set c.loop-i.parameters c.loop-i.i c.fill_parameter-first.new.parameter ∙ inv.0,
      set_same (λ xs. map bare_parameter (map parameter_view xs)) (◌∷◌) (λ x. bare_parameter (parameter_view x)) (λ x xs. refl) c.loop-i.parameters c.loop-i.i c.fill_parameter-first.new.parameter c.index-parameters-i.result c.fill_parameter-first.ensures.same ∙ inv.1,
      goes_more (λ xs. flat_map parameter_blocks (map parameter_view xs)) (λ x. parameter_blocks (parameter_view x)) refl (λ x xs. refl) _ _ _ _ c.loop-i.parameters c.loop-i.i c.fill_parameter-first.new.parameter (subst (λ n. c.loop-i.i < n) (sym inv.0) c.loop-i-test.true) inv.2 c.fill_parameter-first.ensures.goes,
    )
