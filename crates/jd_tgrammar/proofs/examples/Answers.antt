use Rattle.jd_tgrammar.proofs.Worked.{examples}
use Rattle.jd_tgrammar.proofs.examples.Goals as goal

pub returns : goal.returns
returns c = examples
