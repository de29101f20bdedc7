use Rattle.jd_taclet_steps.proofs.Soundness.{steps_sound}
use Rattle.jd_taclet_steps.proofs.laws.steps_of_sound_rows_are_sound.Goals as goal

pub returns : goal.returns
returns c = steps_sound
