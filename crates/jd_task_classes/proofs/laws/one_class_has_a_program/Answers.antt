use Rattle.jd_task_classes.proofs.OneClass.{one_class_stands}
use Rattle.jd_task_classes.proofs.laws.one_class_has_a_program.Goals as goal

pub returns : goal.returns
returns c = λ methods body_ results p is cases calls. one_class_stands methods body_ results p is cases calls
