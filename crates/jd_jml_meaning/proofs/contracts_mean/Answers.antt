use Rattle.jd_jml_meaning.proofs.ContractsMean.{contract_means}
use Rattle.jd_jml_meaning.proofs.contracts_mean.Goals as goal

pub returns : goal.returns
returns c = contract_means
