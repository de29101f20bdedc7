use Rattle.jd_model.proofs.AllLaws.{are_replaceable}
use Rattle.jd_model.proofs.laws.are_replaceable.Goals as goal

pub returns : goal.returns
returns c = are_replaceable
