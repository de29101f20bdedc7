use Rattle.jd_spoken.proofs.Clauses.{all_speak}
use Rattle.jd_spoken.proofs.laws.contracts_speak.Goals as goal

pub returns : goal.returns
returns c = λ d class m ls ok. all_speak d class m ls ok
