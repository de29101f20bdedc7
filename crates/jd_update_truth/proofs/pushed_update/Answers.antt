use Rattle.jd_update_truth.proofs.AllLaws.{pushed_update}
use Rattle.jd_update_truth.proofs.pushed_update.Goals as goal

pub returns : goal.returns
returns c = pushed_update
