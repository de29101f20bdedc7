use Rattle.jd_model.proofs.AllLaws.{are_coincident}
use Rattle.jd_model.proofs.laws.are_coincident.Goals as goal

pub returns : goal.returns
returns c = are_coincident
