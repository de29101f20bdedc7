-- What the stages say of a step by a row that can be worked out.
use Rattle.std.proofs.Common.{All, List, ap, map, refl, subst, sym, ◌≡◌, ◌∙◌}
use Rattle.jd_model.specs.Sequents.{PlainSequent}
use Rattle.jd_pattern_laws.proofs.AllLaws.{matching}
use Rattle.jd_pattern_laws.proofs.Chosen.{chosen_agrees}
use Rattle.jd_patterns.specs.Bindings.{Bindings}
use Rattle.jd_patterns.specs.Chosen.{chosen}
use Rattle.jd_patterns.specs.Instances.{Instance}
use Rattle.jd_schema_matching.specs.Tested.{tests}
use Rattle.jd_sequent.specs.Obligations.{PlainTask}
use Rattle.jd_sequent.specs.Rules.{IsCaused}
use Rattle.jd_sequent.specs.Trees.{PlainStep}
use Rattle.jd_sequent.specs.declared.bad.Bad.{Bad}
use Rattle.jd_sequent.specs.declared.bad.Bad.TheVariants as bads
use Rattle.jd_taclet_matching.specs.Answers.{IsRefusal}
use Rattle.jd_taclet_premises.proofs.Made.{made_of_goals}
use Rattle.jd_taclet_premises.specs.Premises.{PlainGoal, StandsIn, premise_of}
use Rattle.jd_taclet_scripts.specs.Causes.{IsAdmittedBy, RowCause}
use Rattle.jd_taclet_scripts.specs.Steps.{IsStepOfRow, premises_of}
use Rattle.jd_taclet_stages.proofs.Stages.{stages_are_decided}
use Rattle.jd_taclet_stages.specs.Laws.{Decides, IsWorkedOut}
use Rattle.jd_taclet_stages.specs.Stages.{Goes, Outcome, Refuses, stages}
use Rattle.jd_taclets.specs.Taclets.{Taclet}
use Rattle.jd_told_programs.specs.Told.{told_setting}
use Rattle.jd_taclet_rules.specs.Goals.{AreGoalsAfter, HaveInstancesAfter}
use Rattle.jd_table_steps.specs.Usable.{IsUsable}
use Rattle.jd_taclet_rules.proofs.Having.{goals_have}
use Rattle.jd_taclet_rules.proofs.Standing.{found_stand}

module _ (r : Taclet) (t : PlainTask) (s : PlainSequent) (step : PlainStep) (use_ : IsUsable r t s step) where
  abbrev outcome : Outcome
  outcome = stages tests r t s step

  decided : Decides tests r t s step outcome
  decided = stages_are_decided matching tests r use_.ready use_.find use_.finds t s step use_.met

  -- ---- where the stages go through

  module _ (τ : Bindings) (w : IsWorkedOut tests r t s step τ) where
    abbrev σ : Instance
    σ = chosen tests τ

    admitted : IsAdmittedBy r t s step σ
    admitted = w.admitted σ (chosen_agrees tests τ w.once)

    step_there : IsStepOfRow r t s step (premises_of (told_setting t).program σ s r.kind step.place r.goals)
    step_there = record {
      instance = σ;
      found = admitted.new.assumed.given.found.found;
      may_stand = admitted.new.assumed.given.found.may_stand;
      assumed = admitted.new.assumed.assumed;
      conds = admitted.conds;
      given = admitted.new.assumed.given.given;
      find_fits = admitted.new.assumed.given.found.fits;
      assumed_fit = admitted.new.assumed.fit;
      constants_new = admitted.new.constants;
      variables_new = admitted.new.variables;
      premises_are = refl;
    }

  have_after : (o : Outcome) → Decides tests r t s step o → HaveInstancesAfter t r o
  have_after (Refuses b) d = tt
  have_after (Goes τ) d = goals_have (told_setting t).program (chosen tests τ) r.goals (use_.have (chosen tests τ) (admitted τ d))

  pub instances_there : HaveInstancesAfter t r outcome
  instances_there = have_after outcome decided

  stand_after : (o : Outcome) → Decides tests r t s step o → (l : List PlainGoal) → AreGoalsAfter t r o l → All (StandsIn s step.place) l
  stand_after (Refuses b) d l h = absurd h
  stand_after (Goes τ) d l h =
      subst (All (StandsIn s step.place)) (sym h) (found_stand (told_setting t).program (chosen tests τ) s r use_.shape step.place (admitted τ d).new.assumed.given.found.found)

  pub goals_stand : (l : List PlainGoal) → AreGoalsAfter t r outcome l → All (StandsIn s step.place) l
  goals_stand l h = stand_after outcome decided l h

  step_after : (o : Outcome) → Decides tests r t s step o → (l : List PlainGoal) → AreGoalsAfter t r o l → IsStepOfRow r t s step (map (premise_of r.kind s step.place) l)
  step_after (Refuses b) d l h = absurd h
  step_after (Goes τ) d l h =
      subst (IsStepOfRow r t s step)
      (made_of_goals (told_setting t).program (chosen tests τ) s r.kind step.place r.goals ∙ ap (map (premise_of r.kind s step.place)) (sym h))
      (step_there τ d)

  pub is_step : (l : List PlainGoal) → AreGoalsAfter t r outcome l → IsStepOfRow r t s step (map (premise_of r.kind s step.place) l)
  is_step l h = step_after outcome decided l h

  -- ---- where one refuses

  refused_by : (b : Bad) (o : Outcome) → Decides tests r t s step o → o ≡ Refuses b → IsCaused (RowCause r t s step) b
  refused_by b o d e = subst (Decides tests r t s step) e d

  pub refused : (b : Bad) → IsRefusal b outcome → IsCaused (RowCause r t s step) b
  refused bads.NoMemory h = tt
  refused bads.UnknownRule h = refused_by bads.UnknownRule outcome decided h
  refused bads.NoFormula h = refused_by bads.NoFormula outcome decided h
  refused bads.NoPlace h = refused_by bads.NoPlace outcome decided h
  refused bads.WrongPlaceKind h = refused_by bads.WrongPlaceKind outcome decided h
  refused bads.NoMatch h = refused_by bads.NoMatch outcome decided h
  refused bads.MissingInst h = refused_by bads.MissingInst outcome decided h
  refused bads.BadInst h = refused_by bads.BadInst outcome decided h
  refused bads.NoAssume h = refused_by bads.NoAssume outcome decided h
  refused bads.NotFresh h = refused_by bads.NotFresh outcome decided h
  refused bads.SideCondition h = refused_by bads.SideCondition outcome decided h
  refused bads.NoContract h = refused_by bads.NoContract outcome decided h
  refused bads.NoDecreases h = refused_by bads.NoDecreases outcome decided h
  refused bads.TooLarge h = refused_by bads.TooLarge outcome decided h
