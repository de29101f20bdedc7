use Rattle.jd_call.proofs.Steps.{use_contract_sound}
use Rattle.jd_call.proofs.use_contract_is_sound.Goals as goal

pub returns : goal.returns
returns c = use_contract_sound
