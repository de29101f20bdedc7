use Rattle.jd_jparse.proofs.Answering as laws
use Rattle.jd_jparse.proofs.laws.one_answer.Goals as goal

pub returns : goal.returns
returns c = laws.one_answer c.one_derivation.ensures
