use Rattle.jd_call.proofs.Determined.{use_contract_determined}
use Rattle.jd_call.proofs.use_contract_is_determined.Goals as goal

pub returns : goal.returns
returns c = use_contract_determined
