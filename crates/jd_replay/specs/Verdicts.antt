-- What a verdict says of a proof tree and its goal.
use Rattle.std.specs.Prelude.{◌≡◌, ◌<◌, ℕ, List, [], map, length}
use Rattle.jd_model.specs.Sequents.{PlainSequent, sequent_view}
use Rattle.jd_sequent.specs.Trees.{PlainStep, ProofTree, steps_in}
use Rattle.jd_sequent.specs.Derives.{Derives}
use Rattle.jd_sequent.specs.Obligations.{PlainTask}
use Rattle.jd_sequent.specs.TaskMeaning.{StepIsSound}
use Rattle.jd_sequent.specs.declared.bad.Bad.{Bad as Refusal}
use Rattle.jd_sequent.specs.declared.bad.Bad.TheVariants.{NoMemory}
use Rattle.jd_replay.specs.FirstBad.{FirstBad}
use Rattle.jd_replay.specs.declared.verdict.Cause.TheVariants.{Rule}
use Rattle.jd_replay.specs.declared.verdict.Verdict.{Verdict}
use Rattle.jd_replay.specs.declared.verdict.Verdict.TheVariants.{Closed, Open, Bad}

-- closed: nothing is left, and the number is that of the steps; open: what is left are these goals; bad: the node is
-- the first bad step, for this cause
abbrev pub IsVerdict : (PlainSequent → PlainStep → List PlainSequent → Type 0) → (PlainSequent → PlainStep → ℕ → Type 0) → ProofTree → PlainSequent → Verdict → Type 0
IsVerdict leads causes tree goal (Closed steps) = Derives leads tree goal [] × (steps_in tree ≡ steps)
IsVerdict leads causes tree goal (Open goals) = Derives leads tree goal (map sequent_view goals.items) × (0 < length goals.items)
IsVerdict leads causes tree goal (Bad node cause) = FirstBad leads causes tree goal node cause

-- closed: in each program that the task's tables stand for, the goal is valid at each depth and measure at which the
-- contracts are usable
abbrev pub ClosedIsValid : PlainTask → PlainSequent → Verdict → Type 0
ClosedIsValid task goal (Closed steps) = StepIsSound task goal []
ClosedIsValid task goal (Open goals) = Unit {0}
ClosedIsValid task goal (Bad node cause) = Unit {0}

-- the verdict is bad at this node for this refusal, which is no want of memory
abbrev pub IsRefusal : Refusal → ℕ → Verdict → Type 0
IsRefusal bad node (Closed steps) = ⊥
IsRefusal bad node (Open goals) = ⊥
IsRefusal bad node (Bad named cause) = (bad ≡ NoMemory → ⊥) × (named ≡ node) × (cause ≡ Rule bad)
