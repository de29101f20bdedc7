use Rattle.jd_tforms.proofs.Worked.{fault_examples}
use Rattle.jd_tforms.proofs.fault_examples.Goals as goal

pub returns : goal.returns
returns c = fault_examples
