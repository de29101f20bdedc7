use Rattle.jd_taclet_scripts.proofs.Rows.{steps_are_sound}
use Rattle.jd_taclet_scripts.proofs.laws.taclet_steps_are_sound.Goals as goal

pub returns : goal.returns
returns c = steps_are_sound c.taclet_steps_are_steps.ensures c.steps_of_sound_rows_are_sound.ensures
