-- The instances of the rules.
use Rattle.std.specs.Prelude.{◌≡◌, ℕ, List, [], ◌∷◌, map, Some, ◌⊎◌}
use Rattle.jd_term.specs.Formulas.{PlainFormula}
use Rattle.jd_model.specs.declared.sequent.Side.TheVariants.{Left, Right}
use Rattle.jd_model.specs.Sequents.{PlainSequent, PlainPlace}
use Rattle.jd_model.specs.Places.{on_side, numbered, at_place, FormulaPart, put_at}
use Rattle.jd_sequent.specs.Trees.{PlainStep}
use Rattle.jd_first_steps.specs.declared.rules.FirstRule.{FirstRule}
use Rattle.jd_first_steps.specs.declared.rules.FirstRule.TheVariants.{Close}
use Rattle.jd_first_steps.specs.Names.{rule_name}
use Rattle.jd_first_steps.specs.Rows.{Goal, row_goals, goal_premise}
use Rattle.jd_first_steps.specs.Rewrites.{Rewrites}

-- a step of `close`: a formula on the right is the one that is assumed on the left
pub record IsClose (rule : FirstRule) (s : PlainSequent) (p : PlainStep) (ps : List PlainSequent) : Type 0 where
  pub is : rule ≡ Close
  pub index : ℕ
  pub assumed : ℕ
  pub formula : PlainFormula
  pub place : p.place ≡ Some (record { side = Right; index = index; path = [] })
  pub assumes : p.assumes ≡ Some (record { side = Left; index = assumed; path = [] }) ∷ []
  pub on_right : numbered s.right index ≡ Some formula
  pub on_left : numbered s.left assumed ≡ Some formula
  pub premises : ps ≡ []

-- a step at a whole formula: the premises are those of the rule's row
pub record IsRow (rule : FirstRule) (s : PlainSequent) (p : PlainStep) (ps : List PlainSequent) : Type 0 where
  pub place : PlainPlace
  pub formula : PlainFormula
  pub goals : List Goal
  pub placed : p.place ≡ Some place
  pub whole : place.path ≡ []
  pub assumes : p.assumes ≡ []
  pub found : numbered (on_side s place.side) place.index ≡ Some formula
  pub row : row_goals rule place.side formula ≡ Some goals
  pub premises : ps ≡ map (goal_premise s place.side place.index) goals

-- a step at any formula: the premise has another one there
pub record IsRewrite (rule : FirstRule) (s : PlainSequent) (p : PlainStep) (ps : List PlainSequent) : Type 0 where
  pub place : PlainPlace
  pub before : PlainFormula
  pub after : PlainFormula
  pub placed : p.place ≡ Some place
  pub assumes : p.assumes ≡ []
  pub found : at_place s place ≡ Some (FormulaPart before)
  pub rewrites : Rewrites rule before after
  pub premises : ps ≡ put_at s place after ∷ []

-- an instance of the rule that the step names; no rule here takes an instantiation
pub record IsInstance (s : PlainSequent) (p : PlainStep) (ps : List PlainSequent) : Type 0 where
  pub rule : FirstRule
  pub named : p.rule ≡ rule_name rule
  pub insts : p.insts ≡ []
  pub step : IsClose rule s p ps ⊎ (IsRow rule s p ps ⊎ IsRewrite rule s p ps)
