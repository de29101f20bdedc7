use Rattle.jd_specifications.proofs.Worked.{fault_examples}
use Rattle.jd_specifications.proofs.examples.spec_fault_examples.Goals as goal

pub returns : goal.returns
returns c = fault_examples
