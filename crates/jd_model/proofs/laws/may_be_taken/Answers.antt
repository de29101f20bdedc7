use Rattle.jd_model.proofs.AllLaws.{may_be_taken}
use Rattle.jd_model.proofs.laws.may_be_taken.Goals as goal

pub returns : goal.returns
returns c = may_be_taken
