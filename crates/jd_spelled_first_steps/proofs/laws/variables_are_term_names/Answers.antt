use Rattle.jd_spelled_first_steps.proofs.TermNames.{variables_are_term_names}
use Rattle.jd_spelled_first_steps.proofs.laws.variables_are_term_names.Goals as goal

pub returns : goal.returns
returns c = variables_are_term_names
