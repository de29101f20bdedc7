use Rattle.jd_program_laws.proofs.Calls.{resolved}
use Rattle.jd_program_laws.proofs.laws.calls_are_resolved.Goals as goal

pub returns : goal.returns
returns c = λ units are static j is. resolved units are static j is c.depths_are_an_order.ensures.transitive c.one_method.ensures
