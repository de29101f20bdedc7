use Rattle.jd_heap.proofs.HeapLaws.{heaps_by_selects}
use Rattle.jd_heap.proofs.heaps_by_selects.Goals as goal

pub returns : goal.returns
returns c = heaps_by_selects
