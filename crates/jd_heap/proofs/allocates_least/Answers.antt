use Rattle.jd_heap.proofs.HeapLaws.{allocates_least}
use Rattle.jd_heap.proofs.allocates_least.Goals as goal

pub returns : goal.returns
returns c = allocates_least
