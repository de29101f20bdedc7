use Rattle.jd_taclet_stages.proofs.Stages.{stages_are_decided}
use Rattle.jd_taclet_stages.proofs.laws.stages_decide.Goals as goal

pub returns : goal.returns
returns c = stages_are_decided c.matching_is_exact.ensures
