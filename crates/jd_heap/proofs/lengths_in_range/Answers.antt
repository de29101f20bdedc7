use Rattle.jd_heap.proofs.HeapLaws.{lengths_in_range}
use Rattle.jd_heap.proofs.lengths_in_range.Goals as goal

pub returns : goal.returns
returns c = lengths_in_range
