-- The rules that act on a whole formula of one side.
use Rattle.std.specs.Prelude.{ℕ, zero, suc, List, [], ◌∷◌, ◌++◌, Option, Some, None}
use Rattle.jd_term.specs.Formulas.{PlainFormula, TrueFormula, Not, And, Implies}
use Rattle.jd_model.specs.declared.sequent.Side.{Side}
use Rattle.jd_model.specs.declared.sequent.Side.TheVariants.{Left, Right}
use Rattle.jd_model.specs.Sequents.{PlainSequent}
use Rattle.jd_first_steps.specs.declared.rules.FirstRule.{FirstRule}
use Rattle.jd_first_steps.specs.declared.rules.FirstRule.TheVariants.{CloseTrue, NotLeft, AndLeft, AndRight, ImpRight}

-- what stands in a premise for the formula that was found: formulas in its place, and formulas at the other side's end
pub record Goal : Type 0 where
  pub here : List PlainFormula
  pub other : List PlainFormula

-- the premises of a rule at a formula of this side; None where the rule does not match
abbrev pub row_goals : FirstRule → Side → PlainFormula → Option (List Goal)
row_goals CloseTrue Right TrueFormula = Some []
row_goals NotLeft Left (Not a) = Some (record { here = []; other = a ∷ [] } ∷ [])
row_goals AndLeft Left (And a b) = Some (record { here = a ∷ b ∷ []; other = [] } ∷ [])
row_goals AndRight Right (And a b) = Some (record { here = a ∷ []; other = [] } ∷ record { here = b ∷ []; other = [] } ∷ [])
row_goals ImpRight Right (Implies a b) = Some (record { here = b ∷ []; other = a ∷ [] } ∷ [])
row_goals rule side formula = None

-- the list with these formulas in place of the one with this number, from 1
abbrev pub with_instead : List PlainFormula → ℕ → List PlainFormula → List PlainFormula
with_instead [] k new = []
with_instead (a ∷ as') zero new = a ∷ as'
with_instead (a ∷ as') (suc zero) new = new ++ as'
with_instead (a ∷ as') (suc (suc k)) new = a ∷ with_instead as' (suc k) new

abbrev pub goal_premise : PlainSequent → Side → ℕ → Goal → PlainSequent
goal_premise s Left k g = record { left = with_instead s.left k g.here; right = s.right ++ g.other }
goal_premise s Right k g = record { left = s.left ++ g.other; right = with_instead s.right k g.here }
