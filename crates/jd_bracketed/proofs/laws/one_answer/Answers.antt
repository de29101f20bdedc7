use Rattle.jd_bracketed.proofs.Once.{one_answer}
use Rattle.jd_bracketed.proofs.laws.one_answer.Goals as goal

pub returns : goal.returns
returns c = one_answer
