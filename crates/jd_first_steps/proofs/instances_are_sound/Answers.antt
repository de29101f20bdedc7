use Rattle.jd_first_steps.proofs.Sound.{instances_are_sound}
use Rattle.jd_first_steps.proofs.instances_are_sound.Goals as goal

pub returns : goal.returns
returns c = instances_are_sound
