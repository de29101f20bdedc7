use Rattle.jd_jmlparse.proofs.Answering as laws
use Rattle.jd_jmlparse.proofs.laws.one_answer.Goals as goal

pub returns : goal.returns
returns c = laws.one_answer c.one_derivation.ensures
