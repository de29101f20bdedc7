use Rattle.jd_taclet_matching.proofs.InTwo.{given_in_two}
use Rattle.jd_taclet_matching.proofs.laws.given_in_two.Goals as goal

pub returns : goal.returns
returns c = given_in_two
