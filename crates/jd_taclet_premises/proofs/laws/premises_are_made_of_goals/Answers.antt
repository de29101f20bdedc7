use Rattle.jd_taclet_premises.proofs.Made.{made_of_goals}
use Rattle.jd_taclet_premises.proofs.laws.premises_are_made_of_goals.Goals as goal

pub returns : goal.returns
returns c = made_of_goals
