use Rattle.jd_spelled_first_steps.proofs.Rewrites.{rewriting_keeps_spelled}
use Rattle.jd_spelled_first_steps.proofs.laws.rewriting_keeps_spelled.Goals as goal

pub returns : goal.returns
returns c = rewriting_keeps_spelled
