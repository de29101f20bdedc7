use Rattle.jd_jml_meaning.proofs.Scopes.{first_order}
use Rattle.jd_jml_meaning.proofs.formulas_are_first_order.Goals as goal

pub returns : goal.returns
returns c = first_order
