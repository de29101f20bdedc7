-- What is answered of a program's task.
use Rattle.std.specs.Prelude.{List}
use Rattle.jd_syntax.specs.JavaTrees.{JavaUnit}
use Rattle.jd_model.specs.ContractForms.{contracts_view}
use Rattle.jd_sequent.specs.Limits.{IsWithinLimits}
use Rattle.jd_sequent.specs.Obligations.{PlainTask, obligation_view}
use Rattle.jd_classes.specs.declared.classes.Classes.{Classes}
use Rattle.jd_task_classes.specs.Classes.{classes_view}
use Rattle.jd_first_tasks.specs.Tasks.{IsFirstTask}
use Rattle.jd_made_tasks.specs.declared.tasks.FirstTask.{FirstTask}
use Rattle.jd_made_tasks.specs.declared.tasks.FirstTask.TheVariants as answers
use Rattle.jd_made_tasks.specs.declared.tasks.Made.{Made}

abbrev pub made_view : Classes → Made → PlainTask
made_view c m = record { classes = classes_view c; contracts = contracts_view m.contracts; obligation = obligation_view m.obligation }

-- a task of the program whose sequent is past a limit
pub record HasLargeTask (units : List JavaUnit) : Type 0 where
  pub task : PlainTask
  pub is_task : IsFirstTask units task
  pub past : IsWithinLimits task.obligation.sequent → ⊥

-- over these tables of its classes
abbrev pub IsFirstAnswer : List JavaUnit → Classes → FirstTask → Type 0
IsFirstAnswer units c (answers.Task m) = IsFirstTask units (made_view c m) × IsWithinLimits (made_view c m).obligation.sequent
IsFirstAnswer units c answers.OtherForm = (q : PlainTask) → IsFirstTask units q → ⊥
IsFirstAnswer units c answers.TooLarge = HasLargeTask units
