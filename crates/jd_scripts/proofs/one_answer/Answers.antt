use Rattle.jd_scripts.proofs.Once as once
use Rattle.jd_scripts.proofs.one_answer.Goals as goal

pub returns : goal.returns
returns c = once.one_answer
