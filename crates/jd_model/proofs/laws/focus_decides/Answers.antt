use Rattle.jd_model.proofs.AllLaws.{focus_decides}
use Rattle.jd_model.proofs.laws.focus_decides.Goals as goal

pub returns : goal.returns
returns c = focus_decides
