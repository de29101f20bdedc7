use Rattle.jd_update_truth.proofs.Sorted.{unsorted_updates_differ}
use Rattle.jd_update_truth.proofs.unsorted_updates_differ.Goals as goal

pub returns : goal.returns
returns c = unsorted_updates_differ
