use Rattle.jd_update_truth.proofs.PushedExamples.{pushed_examples}
use Rattle.jd_update_truth.proofs.pushed_examples.Goals as goal

pub returns : goal.returns
returns c = pushed_examples
