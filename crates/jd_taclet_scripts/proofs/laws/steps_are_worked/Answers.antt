use Rattle.jd_taclet_scripts.proofs.Worked.{worked}
use Rattle.jd_taclet_scripts.proofs.laws.steps_are_worked.Goals as goal

pub returns : goal.returns
returns c = worked
