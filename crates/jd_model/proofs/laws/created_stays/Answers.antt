use Rattle.jd_model.proofs.Grows.{created_stays}
use Rattle.jd_model.proofs.laws.created_stays.Goals as goal

pub returns : goal.returns
returns c = created_stays
