use Rattle.jd_pattern_laws.proofs.AllLaws.{decides}
use Rattle.jd_pattern_laws.proofs.laws.matching_decides.Goals as goal

pub returns : goal.returns
returns c = decides
