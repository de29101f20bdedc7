use Rattle.jd_bodies.proofs.Worked.{code_examples}
use Rattle.jd_bodies.proofs.examples.code_examples.Goals as goal

pub returns : goal.returns
returns c = code_examples
