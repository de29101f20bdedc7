use Rattle.jd_call.proofs.Steps.{new_object_sound}
use Rattle.jd_call.proofs.new_object_is_sound.Goals as goal

pub returns : goal.returns
returns c = new_object_sound
