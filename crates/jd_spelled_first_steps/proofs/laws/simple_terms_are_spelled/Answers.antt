use Rattle.jd_spelled_first_steps.proofs.SimpleTerms.{simple_terms_are_spelled}
use Rattle.jd_spelled_first_steps.proofs.laws.simple_terms_are_spelled.Goals as goal

pub returns : goal.returns
returns c = simple_terms_are_spelled
