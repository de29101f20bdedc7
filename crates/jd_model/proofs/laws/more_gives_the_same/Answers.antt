use Rattle.jd_model.proofs.More.{more}
use Rattle.jd_model.proofs.laws.more_gives_the_same.Goals as goal

pub returns : goal.returns
returns c = more
