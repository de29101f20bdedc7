use Rattle.jd_model.proofs.AllLaws.{are_substituted}
use Rattle.jd_model.proofs.laws.are_substituted.Goals as goal

pub returns : goal.returns
returns c = are_substituted
