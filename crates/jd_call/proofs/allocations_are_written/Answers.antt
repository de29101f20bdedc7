use Rattle.jd_call.proofs.WrittenAllocations.{allocations_are_written}
use Rattle.jd_call.proofs.allocations_are_written.Goals as goal

pub returns : goal.returns
returns c = allocations_are_written
