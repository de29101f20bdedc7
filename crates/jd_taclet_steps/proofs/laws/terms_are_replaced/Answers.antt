use Rattle.jd_taclet_steps.proofs.PutTerms.{replaced}
use Rattle.jd_taclet_steps.proofs.laws.terms_are_replaced.Goals as goal

pub returns : goal.returns
returns c = replaced
