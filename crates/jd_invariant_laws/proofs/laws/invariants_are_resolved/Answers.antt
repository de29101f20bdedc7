use Rattle.jd_invariant_laws.proofs.Resolving.{all_resolved}
use Rattle.jd_invariant_laws.proofs.laws.invariants_are_resolved.Goals as goal

pub returns : goal.returns
returns c = all_resolved c.declarations_are_one.ensures
