use Rattle.jd_body_variables.proofs.Statements.{begins}
use Rattle.jd_body_variables.proofs.laws.bodies_begin_with_parameters.Goals as goal

pub returns : goal.returns
returns c d class m = begins d class m
