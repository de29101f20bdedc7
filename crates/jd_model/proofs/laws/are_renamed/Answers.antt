use Rattle.jd_model.proofs.AllLaws.{are_renamed}
use Rattle.jd_model.proofs.laws.are_renamed.Goals as goal

pub returns : goal.returns
returns c = are_renamed
