-- The laws of the rules: each instance is a sound step, and its premises are determined.
use Rattle.std.specs.Prelude.{List, ◌≡◌, ℕ}
use Rattle.jd_call.specs.NewObject.{NewObjectInstance}
use Rattle.jd_call.specs.UseContract.{UseContractInstance}
use Rattle.jd_model.specs.BodyTables.{BodiesAssignNoHeap}
use Rattle.jd_model.specs.Sequents.{PlainPlace, PlainSequent}
use Rattle.jd_sequent.specs.Obligations.{PlainTask}
use Rattle.jd_sequent.specs.TaskMeaning.{StepIsSound}

-- for a task whose bodies do not assign the heap's variable
abbrev pub UseContractIsSound : Type 0
UseContractIsSound = (t : PlainTask) → BodiesAssignNoHeap t.contracts → (s : PlainSequent) (place : PlainPlace) (number n : ℕ) (premises : List PlainSequent) → UseContractInstance t s place number n premises → StepIsSound t s premises

abbrev pub NewObjectIsSound : Type 0
NewObjectIsSound = (t : PlainTask) (s : PlainSequent) (place : PlainPlace) (n : ℕ) (premises : List PlainSequent) → NewObjectInstance t s place n premises → StepIsSound t s premises

-- the premises are determined by the place, the number of the case and the number of the step
abbrev pub UseContractIsDetermined : Type 0
UseContractIsDetermined = (t : PlainTask) (s : PlainSequent) (place : PlainPlace) (number n : ℕ) (ps qs : List PlainSequent) → UseContractInstance t s place number n ps → UseContractInstance t s place number n qs → ps ≡ qs

abbrev pub NewObjectIsDetermined : Type 0
NewObjectIsDetermined = (t : PlainTask) (s : PlainSequent) (place : PlainPlace) (n : ℕ) (ps qs : List PlainSequent) → NewObjectInstance t s place n ps → NewObjectInstance t s place n qs → ps ≡ qs
