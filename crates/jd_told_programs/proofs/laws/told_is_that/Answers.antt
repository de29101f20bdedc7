use Rattle.jd_told_programs.proofs.Told.{told_is_that}
use Rattle.jd_told_programs.proofs.laws.told_is_that.Goals as goal

pub returns : goal.returns
returns c = λ t p q task. told_is_that t p q task
