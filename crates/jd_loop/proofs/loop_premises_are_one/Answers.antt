use Rattle.jd_loop.proofs.LoopPremises.{loop_premises_are_one}
use Rattle.jd_loop.proofs.loop_premises_are_one.Goals as goal

pub returns : goal.returns
returns c = loop_premises_are_one
