use Rattle.jd_update_truth.proofs.AllLaws.{pushed_under}
use Rattle.jd_update_truth.proofs.pushed_under.Goals as goal

pub returns : goal.returns
returns c = pushed_under
