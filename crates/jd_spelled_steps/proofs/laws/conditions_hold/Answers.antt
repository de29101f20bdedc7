use Rattle.jd_spelled_steps.proofs.Steps.{conditions_hold}
use Rattle.jd_spelled_steps.proofs.laws.conditions_hold.Goals as goal

pub returns : goal.returns
returns c = conditions_hold c.places_are_spelled.ensures c.answers.ensures
