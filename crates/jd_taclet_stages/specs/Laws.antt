-- The stages decide: a step that goes through them is one of the row, under just the instantiations that agree with what was found, which
-- give it one list of premises; and a step that is refused has the cause, and none before it.
use Rattle.std.specs.Prelude.{List, [], ◌≡◌, ◌∷◌, true}
use Rattle.jd_model.specs.Sequents.{PlainSequent}
use Rattle.jd_model.specs.Truth.{Setting}
use Rattle.jd_patterns.specs.Bindings.{Agrees, Bindings, Tests}
use Rattle.jd_patterns.specs.Chosen.{BoundOnce, chosen}
use Rattle.jd_patterns.specs.Instances.{Instance}
use Rattle.jd_sequent.specs.Obligations.{PlainTask}
use Rattle.jd_sequent.specs.Rules.{IsCaused}
use Rattle.jd_sequent.specs.Trees.{PlainStep}
use Rattle.jd_taclet_scripts.specs.Causes.{IsAdmittedBy, IsFoundBy, RowCause}
use Rattle.jd_taclet_scripts.specs.Steps.{IsStepOfRow, premises_of}
use Rattle.jd_taclet_stages.specs.Ready.{is_ready}
use Rattle.jd_taclet_stages.specs.Stages.{Goes, Outcome, Refuses, stages}
use Rattle.jd_taclets.specs.Conditions.{Condition, ConditionClass, Holds, OfComputedPart, OfIf, OfSequent, class_of}
use Rattle.jd_taclets.specs.Taclets.{AreFinds, IsFind, Taclet}
use Rattle.jd_told_programs.specs.Told.{told_setting}

-- the conditions hold that hold of each sequent which rules take
module _ (g : Setting) (σ : Instance) where
  abbrev pub HoldsOf : ConditionClass → Condition → Type 0
  HoldsOf OfSequent c = Holds g σ c
  HoldsOf OfIf c = Unit {0}
  HoldsOf OfComputedPart c = Unit {0}

  abbrev pub SequentConditionsHold : List Condition → Type 0
  SequentConditionsHold [] = Unit {0}
  SequentConditionsHold (c ∷ cs) = HoldsOf (class_of c) c × SequentConditionsHold cs

-- wherever the row finds something in the sequent
abbrev pub AreMet : Taclet → PlainTask → PlainSequent → PlainStep → Type 0
AreMet r t s step = (σ : Instance) → IsFoundBy r t s step σ → SequentConditionsHold (told_setting t) σ r.conds

-- what was found says all of the step
pub record IsWorkedOut (w : Tests) (r : Taclet) (t : PlainTask) (s : PlainSequent) (step : PlainStep) (τ : Bindings) : Type 0 where
  pub once : BoundOnce w τ
  pub admitted : (σ : Instance) → Agrees σ τ → IsAdmittedBy r t s step σ
  pub agrees : (σ : Instance) → IsAdmittedBy r t s step σ → Agrees σ τ
  pub one : (σ : Instance) → Agrees σ τ → premises_of (told_setting t).program σ s r.kind step.place r.goals ≡ premises_of (told_setting t).program (chosen w τ) s r.kind step.place r.goals

abbrev pub Decides : Tests → Taclet → PlainTask → PlainSequent → PlainStep → Outcome → Type 0
Decides w r t s step (Refuses b) = IsCaused (RowCause r t s step) b
Decides w r t s step (Goes τ) = IsWorkedOut w r t s step τ

abbrev pub StagesDecide : Type 0
StagesDecide =
    (w : Tests) (r : Taclet) → is_ready r ≡ true → IsFind r.find → AreFinds r.assumes
    → (t : PlainTask) (s : PlainSequent) (step : PlainStep) → AreMet r t s step → Decides w r t s step (stages w r t s step)

-- so the premises of a step are determined: two instantiations that are admitted agree with what was found. That needs no premise on the
-- sequent, as the conditions that hold of each hold under both
abbrev pub StepsAreOneWay : Type 0
StepsAreOneWay =
    (r : Taclet) → is_ready r ≡ true → IsFind r.find → AreFinds r.assumes
    → (t : PlainTask) (s : PlainSequent) (step : PlainStep)
    → (ps qs : List PlainSequent) → IsStepOfRow r t s step ps → IsStepOfRow r t s step qs → ps ≡ qs
