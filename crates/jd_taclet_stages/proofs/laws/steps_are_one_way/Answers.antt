use Rattle.jd_taclet_stages.proofs.Stages.{steps_are_determined}
use Rattle.jd_taclet_stages.proofs.laws.steps_are_one_way.Goals as goal

pub returns : goal.returns
returns c = steps_are_determined c.matching_is_exact.ensures c.trees_are_compared.ensures
