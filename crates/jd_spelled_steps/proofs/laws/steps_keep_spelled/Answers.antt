use Rattle.jd_spelled_steps.proofs.Steps.{steps_keep}
use Rattle.jd_spelled_steps.proofs.laws.steps_keep_spelled.Goals as goal

pub returns : goal.returns
returns c = steps_keep c.places_are_spelled.ensures c.answers.ensures
