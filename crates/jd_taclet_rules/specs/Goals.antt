-- What the goals of a row say in a step, and what the code needs for them.
use Rattle.std.specs.Prelude.{List, MatchResult, map, ◌≡◌}
use Rattle.std.specs.Global.{Vec}
use Rattle.std.specs.declared.result.Result.{Result}
use Rattle.jd_patterns.specs.Bindings.{Bindings}
use Rattle.jd_patterns.specs.Chosen.{chosen}
use Rattle.jd_schema_matching.specs.Tested.{tests}
use Rattle.jd_sequent.specs.Obligations.{PlainTask}
use Rattle.jd_sequent.specs.declared.bad.Bad.{Bad}
use Rattle.jd_taclet_matching.specs.Answers.{IsRefusal}
use Rattle.jd_taclet_premises.specs.Having.{AllHaveInstances}
use Rattle.jd_taclet_premises.specs.Premises.{PlainGoal, goal_of}
use Rattle.jd_taclet_premises.specs.Views.{goal_view}
use Rattle.jd_taclet_premises.specs.declared.parts.GoalParts.{GoalParts}
use Rattle.jd_taclet_stages.specs.Stages.{Goes, Outcome, Refuses}
use Rattle.jd_taclets.specs.Taclets.{Taclet}
use Rattle.jd_told_programs.specs.Told.{told_setting}

module _ (t : PlainTask) (r : Taclet) where
  -- what they say under the instantiation that the bindings choose
  abbrev pub goals_by : Bindings → List PlainGoal
  goals_by τ = map (goal_of (told_setting t).program (chosen tests τ)) r.goals

  -- where the stages go through, each pattern of the goals has its instance
  abbrev pub HaveInstancesAfter : Outcome → Type 0
  HaveInstancesAfter (Refuses b) = Unit {0}
  HaveInstancesAfter (Goes τ) = AllHaveInstances (told_setting t).program (chosen tests τ) r.goals

  -- what the goals say where the stages go through
  abbrev pub AreGoalsAfter : Outcome → List PlainGoal → Type 0
  AreGoalsAfter (Refuses b) l = ⊥
  AreGoalsAfter (Goes τ) l = l ≡ goals_by τ

  abbrev pub Concludes : Outcome → Result (Vec GoalParts) Bad → Type 0
  Concludes o x = MatchResult x (λ v. AreGoalsAfter o (map goal_view v.items)) (λ b. IsRefusal b o)
