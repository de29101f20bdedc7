use Rattle.jd_spelled_first_steps.proofs.Unspelled.{set_simple_needs_term_names}
use Rattle.jd_spelled_first_steps.proofs.laws.set_simple_needs_term_names.Goals as goal

pub returns : goal.returns
returns c = set_simple_needs_term_names
