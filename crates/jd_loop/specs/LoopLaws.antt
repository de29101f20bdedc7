-- What is claimed of the loop rule.
use Rattle.std.specs.Prelude.{◌≡◌, ℕ, List}
use Rattle.jd_model.specs.Sequents.{PlainSequent, PlainPlace}
use Rattle.jd_model.specs.BodyTables.{BodiesAssignNoHeap}
use Rattle.jd_sequent.specs.Obligations.{PlainTask}
use Rattle.jd_sequent.specs.TaskMeaning.{StepIsSound}
use Rattle.jd_loop.specs.LoopInstances.{IsLoopInstance}

-- each instance is a sound step, where no body of the task's tables assigns the heap's variable
abbrev pub LoopRuleIsSound : Type 0
LoopRuleIsSound = (t : PlainTask) → BodiesAssignNoHeap t.contracts → (s : PlainSequent) (p : PlainPlace) (n : ℕ) (premises : List PlainSequent) → IsLoopInstance t s p n premises → StepIsSound t s premises

-- the premises are determined by the place and the number
abbrev pub LoopPremisesAreOne : Type 0
LoopPremisesAreOne = (t : PlainTask) (s : PlainSequent) (p : PlainPlace) (n : ℕ) (ps qs : List PlainSequent) → IsLoopInstance t s p n ps → IsLoopInstance t s p n qs → ps ≡ qs
