use Rattle.jd_specifications.proofs.Binders.{scoped, location_scoped}
use Rattle.jd_specifications.proofs.laws.resolved_is_scoped.Goals as goal

pub returns : goal.returns
returns c = record { expressions = scoped; locations_ = location_scoped }
