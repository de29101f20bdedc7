use Rattle.jd_heap.proofs.HeapLaws.{select_over_store}
use Rattle.jd_heap.proofs.select_over_store.Goals as goal

pub returns : goal.returns
returns c = select_over_store
