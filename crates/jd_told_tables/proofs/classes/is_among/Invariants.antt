use Rattle.std.proofs.Common.{◌≡◌, nat_eq}
use Rattle.std.specs.List.{list_any}
use Rattle.jd_sequent.specs.Obligations.{task_view}
use Rattle.jd_task_classes.specs.Classes.{parents_in}
use Rattle.jd_told_tables.specs.Lines.{line_up}
use Rattle.jd_told_tables.proofs.classes.is_among.Given as goal

-- what is told from the class that is reached is what the first one tells
abbrev pub invariant-loop-left : goal.invariant-loop-left
invariant-loop-left l = list_any (nat_eq l.other) (line_up (parents_in (task_view l.task).classes.tables) l.steps l.class) ≡ list_any (nat_eq l.other) (line_up (parents_in (task_view l.task).classes.tables) l.left l.at)

abbrev pub decreases-loop-left : goal.decreases-loop-left
decreases-loop-left l = l.left
