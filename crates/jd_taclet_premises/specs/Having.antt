-- When all patterns of a goal have instances.
use Rattle.std.specs.Prelude.{List, None, Option, Some, [], ◌∷◌}
use Rattle.jd_model.specs.Programs.{Program}
use Rattle.jd_patterns.specs.Instances.{Instance}
use Rattle.jd_patterns.specs.Patterns.{FormulaPattern}
use Rattle.jd_schema_instances.specs.Fitting.{HasFormulaInstance, HasTermInstance}
use Rattle.jd_taclets.specs.Taclets.{FormulaFind, Pattern, TacletGoal, TermFind}

module _ (p : Program) (σ : Instance) where
  abbrev pub HasInstance : Option Pattern → Type 0
  HasInstance None = Unit {0}
  HasInstance (Some (FormulaFind a)) = HasFormulaInstance p σ a
  HasInstance (Some (TermFind t)) = HasTermInstance p σ t

  abbrev pub HaveInstances : List FormulaPattern → Type 0
  HaveInstances [] = Unit {0}
  HaveInstances (a ∷ l) = HasFormulaInstance p σ a × HaveInstances l

  pub record GoalHasInstances (n : TacletGoal) : Type 0 where
    pub replace : HasInstance n.replace
    pub left : HaveInstances n.left
    pub right : HaveInstances n.right

  abbrev pub AllHaveInstances : List TacletGoal → Type 0
  AllHaveInstances [] = Unit {0}
  AllHaveInstances (n ∷ ns) = GoalHasInstances n × AllHaveInstances ns
