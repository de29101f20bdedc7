use Rattle.jd_pattern_laws.proofs.AllLaws.{matching}
use Rattle.jd_pattern_laws.proofs.laws.matching_is_exact.Goals as goal

pub returns : goal.returns
returns c = matching
