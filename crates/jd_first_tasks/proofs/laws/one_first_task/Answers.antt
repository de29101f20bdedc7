use Rattle.jd_first_tasks.proofs.Moved.{one_task}
use Rattle.jd_first_tasks.proofs.laws.one_first_task.Goals as goal

pub returns : goal.returns
returns c = one_task c.declarations_are_one.ensures c.programs_are_one.ensures c.classes_are_one.ensures
