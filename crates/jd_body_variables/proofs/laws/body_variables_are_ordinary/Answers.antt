use Rattle.jd_body_variables.proofs.Ordinary.{ordinary}
use Rattle.jd_body_variables.proofs.laws.body_variables_are_ordinary.Goals as goal

pub returns : goal.returns
returns c d class m is = ordinary d class m is
