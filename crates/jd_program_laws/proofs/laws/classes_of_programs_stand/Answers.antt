use Rattle.jd_program_laws.proofs.TaskClasses.{classes_stand}
use Rattle.jd_program_laws.proofs.laws.classes_of_programs_stand.Goals as goal

pub returns : goal.returns
returns c = classes_stand c.depths_are_an_order.ensures.transitive c.one_method.ensures
