use Rattle.jd_first_steps.proofs.SortedSteps.{instances_keep_sorted}
use Rattle.jd_first_steps.proofs.instances_keep_sorted.Goals as goal

pub returns : goal.returns
returns c = instances_keep_sorted
