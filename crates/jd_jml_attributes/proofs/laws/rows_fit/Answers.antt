use Rattle.jd_jml_attributes.proofs.Fitting.{arities_fit}
use Rattle.jd_jml_attributes.proofs.laws.rows_fit.Goals as goal

pub returns : goal.returns
returns c = record { names = arities_fit }
