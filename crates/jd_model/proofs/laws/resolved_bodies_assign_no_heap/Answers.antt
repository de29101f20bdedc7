use Rattle.jd_model.proofs.ResolvedEnds.{resolved_bodies_assign_no_heap}
use Rattle.jd_model.proofs.laws.resolved_bodies_assign_no_heap.Goals as goal

pub returns : goal.returns
returns c = resolved_bodies_assign_no_heap
