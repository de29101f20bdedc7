use Rattle.jd_nearest.proofs.Inheriting.{one_nearest}
use Rattle.jd_nearest.proofs.laws.nearest_is_one.Goals as goal

pub returns-clause-one : goal.returns-clause-one
returns-clause-one c = one_nearest
