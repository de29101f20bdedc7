use Rattle.jd_spelled_steps.proofs.Steps.{steps_have_instances}
use Rattle.jd_spelled_steps.proofs.laws.steps_have_instances.Goals as goal

pub returns : goal.returns
returns c = steps_have_instances c.places_are_spelled.ensures c.answers.ensures
