use Rattle.jd_bodies.proofs.Worked.{fault_examples}
use Rattle.jd_bodies.proofs.examples.fault_examples.Goals as goal

pub returns : goal.returns
returns c = fault_examples
