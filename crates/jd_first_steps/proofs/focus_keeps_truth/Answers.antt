use Rattle.jd_first_steps.proofs.Replacements.{focus_keeps_truth}
use Rattle.jd_first_steps.proofs.focus_keeps_truth.Goals as goal

pub returns : goal.returns
returns c = focus_keeps_truth
