use Rattle.jd_first_steps.proofs.UnsortedSimplify.{simplify_needs_premise}
use Rattle.jd_first_steps.proofs.simplify_needs_premise.Goals as goal

pub returns : goal.returns
returns c = simplify_needs_premise
