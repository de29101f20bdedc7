use Rattle.jd_spelled_first_steps.proofs.Focus.{focus_keeps_spelled}
use Rattle.jd_spelled_first_steps.proofs.laws.focus_keeps_spelled.Goals as goal

pub returns : goal.returns
returns c = focus_keeps_spelled
