use Rattle.jd_resolved_bodies.proofs.Statements.{resolved}
use Rattle.jd_resolved_bodies.proofs.laws.bodies_are_resolved.Goals as goal

pub returns : goal.returns
returns c = resolved
