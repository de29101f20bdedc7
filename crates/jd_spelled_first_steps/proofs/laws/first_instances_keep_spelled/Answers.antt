use Rattle.jd_spelled_first_steps.proofs.Instances.{first_instances_keep_spelled}
use Rattle.jd_spelled_first_steps.proofs.laws.first_instances_keep_spelled.Goals as goal

pub returns : goal.returns
returns c = first_instances_keep_spelled c.places_are_spelled.ensures
