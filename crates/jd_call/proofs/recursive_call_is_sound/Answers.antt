use Rattle.jd_call.proofs.RecursiveCall.{recursive_call_is_sound}
use Rattle.jd_call.proofs.recursive_call_is_sound.Goals as goal

pub returns : goal.returns
returns c = recursive_call_is_sound
