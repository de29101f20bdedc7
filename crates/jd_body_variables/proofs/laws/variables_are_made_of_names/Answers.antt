use Rattle.jd_body_variables.proofs.Statements.{made}
use Rattle.jd_body_variables.proofs.laws.variables_are_made_of_names.Goals as goal

pub returns : goal.returns
returns c = made
