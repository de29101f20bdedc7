use Rattle.jd_loop.proofs.CountingStands.{counting_step}
use Rattle.jd_loop.proofs.counting_step.Goals as goal

pub returns : goal.returns
returns c = counting_step
