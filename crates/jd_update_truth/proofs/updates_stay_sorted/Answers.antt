use Rattle.jd_update_truth.proofs.Sorted.{updates_stay_sorted}
use Rattle.jd_update_truth.proofs.updates_stay_sorted.Goals as goal

pub returns : goal.returns
returns c = updates_stay_sorted
