use Rattle.jd_update_truth.proofs.AllLaws.{dead_pairs_dropped}
use Rattle.jd_update_truth.proofs.dead_pairs_dropped.Goals as goal

pub returns : goal.returns
returns c = dead_pairs_dropped
