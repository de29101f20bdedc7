use Rattle.jd_pattern_laws.proofs.AllLaws.{binding}
use Rattle.jd_pattern_laws.proofs.laws.matching_binds.Goals as goal

pub returns : goal.returns
returns c = binding
