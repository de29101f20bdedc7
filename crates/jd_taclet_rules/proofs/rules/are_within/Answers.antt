use Rattle.std.proofs.Common.{◌≡◌, ◌∙◌, true, false, sym, refl, arith}
use Rattle.jd_model.specs.Sequents.{sequent_view}
use Rattle.jd_sequent.specs.Limits.{IsWithinLimits}
use Rattle.jd_syntax.proofs.Lists.{at_item}
use Rattle.jd_taclet_rules.proofs.Within.{all_more, all_whole}
use Rattle.jd_taclet_rules.proofs.rules.are_within.Goals as goal

false_true : false ≡ true → ⊥
false_true h = cc

pub returns-then-not-is_within_limits : goal.returns-then-not-is_within_limits
returns-then-not-is_within_limits c =
    (λ t k d lt. absurd (false_true t), λ all. sym c.if-not-is_within_limits.true ∙ c.is_within_limits.ensures.1 (at_item IsWithinLimits sequent_view c.args.premises.now c.loop-premise.premise-index c.premise-item.result c.premise-item.is c.loop-premise-test.true all))

pub loop-premise-preserved : goal.loop-premise-preserved
loop-premise-preserved c =
    all_more IsWithinLimits sequent_view c.args.premises.now c.loop-premise.premise-index c.premise-item.result c.premise-item.is c.loop-premise-test.true (c.is_within_limits.ensures.0 c.if-not-is_within_limits.false) c.loop-premise.invariant

pub returns : goal.returns
returns c = (λ t. all_whole IsWithinLimits sequent_view c.args.premises.now c.loop-premise.premise-index (omega arith) c.loop-premise.invariant, λ all. refl)
