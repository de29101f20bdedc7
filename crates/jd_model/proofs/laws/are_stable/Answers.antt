use Rattle.jd_model.proofs.AllLaws.{are_stable}
use Rattle.jd_model.proofs.laws.are_stable.Goals as goal

pub returns : goal.returns
returns c = are_stable
