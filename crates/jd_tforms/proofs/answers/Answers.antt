use Rattle.jd_tforms.proofs.Answering.{answers}
use Rattle.jd_tforms.proofs.answers.Goals as goal

pub returns : goal.returns
returns c = answers
