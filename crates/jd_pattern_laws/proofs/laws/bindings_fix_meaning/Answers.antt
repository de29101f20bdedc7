use Rattle.jd_pattern_laws.proofs.AllLaws.{fixed}
use Rattle.jd_pattern_laws.proofs.laws.bindings_fix_meaning.Goals as goal

pub returns : goal.returns
returns c = fixed
