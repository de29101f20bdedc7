use Rattle.std.proofs.Common.{◌≡◌, ◌++◌}
use Rattle.jd_sequent.specs.Obligations.{task_view}
use Rattle.jd_task_classes.specs.Classes.{parents_in}
use Rattle.jd_told_tables.specs.Lines.{line_up}
use Rattle.jd_told_tables.proofs.invariants.add_line.Given as goal

-- what is there, and what the rest of the way adds
abbrev pub invariant-loop-left : goal.invariant-loop-left
invariant-loop-left l = l.made.items ++ line_up (parents_in (task_view l.task).classes.tables) l.left l.at ≡ l.fn.made.items ++ line_up (parents_in (task_view l.task).classes.tables) l.steps l.class

abbrev pub decreases-loop-left : goal.decreases-loop-left
decreases-loop-left l = l.left
