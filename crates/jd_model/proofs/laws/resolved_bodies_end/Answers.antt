use Rattle.jd_model.proofs.ResolvedEnds.{resolved_bodies_end}
use Rattle.jd_model.proofs.laws.resolved_bodies_end.Goals as goal

pub returns : goal.returns
returns c = resolved_bodies_end
