-- What the results of the rules' functions say.
use Rattle.std.specs.Prelude.{◌≡◌, List, [], ◌∷◌, map, Option, Some, None}
use Rattle.jd_term.specs.declared.formula.Formula.{Formula}
use Rattle.jd_term.specs.Formulas.{PlainFormula, formula_view}
use Rattle.jd_model.specs.declared.sequent.Side.{Side}
use Rattle.jd_model.specs.Sequents.{PlainSequent, PlainPlace}
use Rattle.jd_model.specs.Places.{FormulaPart, at_place, put_at}
use Rattle.jd_sequent.specs.Trees.{PlainStep}
use Rattle.jd_first_steps.specs.declared.rules.FirstRule.{FirstRule}
use Rattle.jd_first_steps.specs.declared.rules.FirstRule.TheVariants.{Close}
use Rattle.jd_first_steps.specs.Rows.{row_goals, goal_premise}
use Rattle.jd_first_steps.specs.Rewrites.{Rewrites}
use Rattle.jd_first_rules.specs.declared.rules.Kind.{Kind}
use Rattle.jd_first_rules.specs.declared.rules.Kind.TheVariants.{Closing, Whole, Anywhere}
use Rattle.jd_first_rules.specs.declared.made.Made.{Made}
use Rattle.jd_first_rules.specs.declared.made.Made.TheVariants.{Goals, Instead}
use Rattle.jd_first_rules.specs.Goals.{goal_view}
use Rattle.jd_first_rules.specs.Steps.{kind_of}
use Rattle.jd_first_rules.specs.Causes.{whole_side, IsOn, IsAssumed}

-- the formula that the rule puts for another, or that it puts none
abbrev pub IsRewriting : FirstRule → PlainFormula → Option Formula → Type 0
IsRewriting rule before None = (after : PlainFormula) → Rewrites rule before after → ⊥
IsRewriting rule before (Some after) = Rewrites rule before (formula_view after)

-- the formula stands at the step's place, and the rule acts on such a place
pub record IsAt (rule : FirstRule) (s : PlainSequent) (p : PlainStep) (place : PlainPlace) (a : PlainFormula) : Type 0 where
  pub placed : p.place ≡ Some place
  pub found : at_place s place ≡ Some (FormulaPart a)
  pub on : IsOn (whole_side rule) place

-- a rule of this kind makes this of a formula on a side
abbrev pub IsMade : Kind → FirstRule → Side → PlainFormula → Made → Type 0
IsMade Closing rule side a (Goals goals) = map goal_view goals.items ≡ []
IsMade Whole rule side a (Goals goals) = row_goals rule side a ≡ Some (map goal_view goals.items)
IsMade Anywhere rule side a (Instead after) = Rewrites rule a (formula_view after)
IsMade kind rule side a made = ⊥

-- the premises that come of what a rule made of the formula at the place
abbrev pub made_premises : PlainSequent → PlainPlace → Made → List PlainSequent
made_premises s place (Goals goals) = map (goal_premise s place.side place.index) (map goal_view goals.items)
made_premises s place (Instead after) = put_at s place (formula_view after) ∷ []

-- a step at this formula assumes what its rule wants: `close` the same formula on the left, the others nothing
abbrev pub AssumesRightly : FirstRule → PlainSequent → List (Option PlainPlace) → PlainFormula → Type 0
AssumesRightly Close s assumes a = IsAssumed s assumes a
AssumesRightly rule s assumes a = assumes ≡ []

-- the rule makes this of a formula that stands at the step's place; the step gives nothing but what the rule assumes
pub record IsTaken (rule : FirstRule) (s : PlainSequent) (p : PlainStep) (place : PlainPlace) (made : Made) : Type 0 where
  pub formula : PlainFormula
  pub at_it : IsAt rule s p place formula
  pub is_made : IsMade (kind_of rule) rule place.side formula made
  pub no_insts : p.insts ≡ []
  pub rightly : AssumesRightly rule s p.assumes formula
