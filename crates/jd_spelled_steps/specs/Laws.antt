-- The rows of logic and of integers keep trees spelled, and a step by a row that does leads from sequents that rules take to such sequents.
use Rattle.std.specs.Prelude.{All, List, Some, ◌≡◌, ℕ}
use Rattle.jd_model.specs.Sequents.{PlainSequent}
use Rattle.jd_patterns.specs.Instances.{Instance}
use Rattle.jd_sequent.specs.Limits.{IsWithinLimits}
use Rattle.jd_sequent.specs.Obligations.{PlainTask, names_of}
use Rattle.jd_sequent.specs.Trees.{PlainStep}
use Rattle.jd_spelled_steps.specs.Rows.{AllAreMet, AllKeep, ConditionsAreMet, GoalsHaveInstances, RowKeeps}
use Rattle.jd_spelled_trees.specs.Places.{IsSpelledSequent}
use Rattle.jd_tac_int.specs.Integers.{integer_rows}
use Rattle.jd_tac_logic.specs.Logic.{logic_rows}
use Rattle.jd_taclet_scripts.specs.Causes.{IsAdmittedBy}
use Rattle.jd_taclet_scripts.specs.Steps.{IsStepOfRow, IsTacletStep, row_named}
use Rattle.jd_taclet_stages.specs.Laws.{AreMet}
use Rattle.jd_taclets.specs.Taclets.{Taclet}
use Rattle.jd_told_programs.specs.Told.{told_setting}

-- ---- rows

pub record RowsKeep : Type 0 where
  pub logic : AllKeep logic_rows
  pub integers : AllKeep integer_rows

pub record RowsAreMet : Type 0 where
  pub logic : AllAreMet logic_rows
  pub integers : AllAreMet integer_rows

-- ---- steps

-- at a sequent that rules take, premises within the limits are such again
pub record StepsKeepSpelled : Type 0 where
  pub of_row : (r : Taclet) → RowKeeps r → (t : PlainTask) (s : PlainSequent) → IsSpelledSequent (names_of t) s → (step : PlainStep) (premises : List PlainSequent) → IsStepOfRow r t s step premises → All IsWithinLimits premises → All (IsSpelledSequent (names_of t)) premises
  pub of_table : (rows : List Taclet) → AllKeep rows → (t : PlainTask) (s : PlainSequent) → IsSpelledSequent (names_of t) s → (step : PlainStep) (premises : List PlainSequent) → IsTacletStep rows t s step premises → All IsWithinLimits premises → All (IsSpelledSequent (names_of t)) premises

-- there each pattern of the goals has its instance, under each instantiation that a step admits
pub record StepsHaveInstances : Type 0 where
  pub of_row : (r : Taclet) → RowKeeps r → (t : PlainTask) (s : PlainSequent) → IsSpelledSequent (names_of t) s → (step : PlainStep) (σ : Instance) → IsAdmittedBy r t s step σ → GoalsHaveInstances (told_setting t).program σ r.goals
  pub of_table : (rows : List Taclet) → AllKeep rows → (name : List ℕ) (r : Taclet) → row_named rows name ≡ Some r → (t : PlainTask) (s : PlainSequent) → IsSpelledSequent (names_of t) s → (step : PlainStep) (σ : Instance) → IsAdmittedBy r t s step σ → GoalsHaveInstances (told_setting t).program σ r.goals

-- there the conditions hold that hold of each such sequent, under each instantiation that finds something
pub record ConditionsHold : Type 0 where
  pub of_row : (r : Taclet) → ConditionsAreMet r → (t : PlainTask) (s : PlainSequent) → IsSpelledSequent (names_of t) s → (step : PlainStep) → AreMet r t s step
  pub of_table : (rows : List Taclet) → AllAreMet rows → (name : List ℕ) (r : Taclet) → row_named rows name ≡ Some r → (t : PlainTask) (s : PlainSequent) → IsSpelledSequent (names_of t) s → (step : PlainStep) → AreMet r t s step
