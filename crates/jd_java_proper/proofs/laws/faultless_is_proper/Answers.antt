use Rattle.jd_java_proper.proofs.Trees.{is_proper}
use Rattle.jd_java_proper.proofs.laws.faultless_is_proper.Goals as goal

pub returns : goal.returns
returns c = is_proper
