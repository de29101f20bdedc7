-- What holds of such tasks.
use Rattle.std.specs.Prelude.{◌≡◌, ℕ, List, [], None, Some}
use Rattle.jd_syntax.specs.JavaTrees.{JavaUnit}
use Rattle.jd_jclasses.specs.Refusals.{AreClasses}
use Rattle.jd_files.specs.Files.{AreTrees}
use Rattle.jd_refusals.specs.Refusals.{IsFirst}
use Rattle.jd_sequent.specs.Obligations.{PlainTask}
use Rattle.jd_sequent.specs.TaskMeaning.{StepIsSound}
use Rattle.jd_jml_meaning.specs.JmlCases.{JmlCase, JmlKept, JmlProgram}
use Rattle.jd_programs.specs.Programs.{IsProgram}
use Rattle.jd_first_tasks.specs.Tasks.{IsFirstTask}

-- files have one such task
abbrev pub OneFirstTask : Type 0
OneFirstTask = (units : List JavaUnit) → AreClasses units → (q r : PlainTask) → IsFirstTask units q → IsFirstTask units r → q ≡ r

-- where it is closed by sound steps, each case of each program that the files mean is kept
abbrev pub ClosedFirstTasksAreKept : Type 0
ClosedFirstTasksAreKept =
    (files : List (List ℕ)) (units : List JavaUnit) → AreTrees files units → AreClasses units → IsFirst units None
    → (q : PlainTask) → IsFirstTask units q → StepIsSound q q.obligation.sequent []
    → (j : JmlProgram) → IsProgram units j → (κ : ℕ) (c : JmlCase) → j.case κ ≡ Some c → JmlKept j c
