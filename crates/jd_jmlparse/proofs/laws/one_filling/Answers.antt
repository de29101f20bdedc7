use Rattle.jd_jmlparse.proofs.Fillings as fillings
use Rattle.jd_jmlparse.proofs.laws.one_filling.Goals as goal

pub returns : goal.returns
returns c = fillings.one_filling c.one_answer.ensures
