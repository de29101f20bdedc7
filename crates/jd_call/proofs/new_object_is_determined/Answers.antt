use Rattle.jd_call.proofs.Determined.{new_object_determined}
use Rattle.jd_call.proofs.new_object_is_determined.Goals as goal

pub returns : goal.returns
returns c = new_object_determined
