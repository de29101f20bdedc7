use Rattle.jd_first_steps.proofs.Places.{rewriting_is_sound}
use Rattle.jd_first_steps.proofs.rewriting_is_sound.Goals as goal

pub returns : goal.returns
returns c = rewriting_is_sound
