-- The sequent of the task that is made of files is spelled by the grammar.
use Rattle.std.specs.Prelude.{List, None, ℕ}
use Rattle.jd_files.specs.Files.{AreTrees}
use Rattle.jd_first_tasks.specs.Tasks.{IsFirstTask}
use Rattle.jd_jclasses.specs.Refusals.{AreClasses}
use Rattle.jd_refusals.specs.Refusals.{IsFirst}
use Rattle.jd_sequent.specs.Obligations.{PlainTask, names_of}
use Rattle.jd_spelled_first_steps.specs.TermNames.{AreTermNames}
use Rattle.jd_spelled_trees.specs.Places.{IsSpelledSequent}
use Rattle.jd_syntax.specs.JavaTrees.{JavaUnit}

-- where no token of the files is refused
abbrev pub FirstTasksAreSpelled : Type 0
FirstTasksAreSpelled =
    (files : List (List ℕ)) (units : List JavaUnit) → AreTrees files units → AreClasses units → IsFirst units None
    → (q : PlainTask) → IsFirstTask units q → IsSpelledSequent (names_of q) q.obligation.sequent × AreTermNames (names_of q).variables
