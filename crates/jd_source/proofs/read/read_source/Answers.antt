use Rattle.jd_source.proofs.Refusing.{of_text}
use Rattle.jd_source.proofs.read.read_source.Goals as goal

pub returns-in-Err-clause-refused : goal.returns-in-Err-clause-refused
returns-in-Err-clause-refused c = of_text c.args.bytes.now c.in-Err.e c.in-Err.ensures
