use Rattle.std.proofs.Common.{◌≡◌, ◌∙◌, true, false, sym, subst, map, All}
use Rattle.jd_model.specs.Sequents.{sequent_view}
use Rattle.jd_sequent.specs.Steps.{step_view}
use Rattle.jd_sequent.specs.Limits.{IsWithinLimits}
use Rattle.jd_first_rules.proofs.Refusals.{too_large}
use Rattle.jd_first_rules.proofs.set.FirstRulesRuleSet.apply_to.Goals as goal

true_false : true ≡ false → ⊥
true_false h = cc

pub returns-then-not-are_within : goal.returns-then-not-are_within
returns-then-not-are_within c =
    too_large (sequent_view c.args.sequent) (step_view c.args.step.now) (map sequent_view c.in-Ok.premises.items) c.in-Ok.ensures
    (λ all. true_false (sym (c.are_within.ensures.1 (subst (λ l. All IsWithinLimits (map sequent_view l)) (sym c.deref-2.ensures.value) all)) ∙ c.if-not-are_within.true))

pub returns : goal.returns
returns c = (c.in-Ok.ensures, subst (λ l. All IsWithinLimits (map sequent_view l)) c.deref-2.ensures.value (c.are_within.ensures.0 c.if-not-are_within.false))
