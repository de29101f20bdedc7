use Rattle.jd_proofs.proofs.Once as once
use Rattle.jd_proofs.proofs.laws.one_outcome.Goals as goal

pub returns : goal.returns
returns c = once.one_outcome
