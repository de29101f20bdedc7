use Rattle.jd_source.proofs.Laws as laws
use Rattle.jd_source.proofs.read.one_source.Goals as goal

pub returns : goal.returns
returns c = laws.one_source c.one_answer.ensures.one_list c.one_answer.ensures.no_fault c.one_answer.ensures.one_first c.one_answer-2.ensures c.one_filling.ensures
