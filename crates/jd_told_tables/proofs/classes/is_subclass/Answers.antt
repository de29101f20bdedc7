use Rattle.jd_task_classes.specs.Classes.{classes_view}
use Rattle.jd_told_tables.proofs.Lines.{below_by}
use Rattle.jd_told_tables.proofs.classes.is_subclass.Goals as goal

pub returns-then-class-count : goal.returns-then-class-count
returns-then-class-count c = below_by (classes_view c.args.task.now.classes.now) c.args.class.0 c.args.other.0 _ _ c.class_count-count.ensures c.if-class-count.true c.is_among.ensures
