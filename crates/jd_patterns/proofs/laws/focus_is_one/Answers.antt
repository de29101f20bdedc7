use Rattle.jd_patterns.proofs.Foci.{one_focus}
use Rattle.jd_patterns.proofs.laws.focus_is_one.Goals as goal

pub returns : goal.returns
returns c = one_focus
