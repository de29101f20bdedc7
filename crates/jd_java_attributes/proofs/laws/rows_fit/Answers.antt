use Rattle.jd_java_attributes.proofs.Fitting.{arities_fit, tokens_fit}
use Rattle.jd_java_attributes.proofs.laws.rows_fit.Goals as goal

pub returns : goal.returns
returns c = record { names = arities_fit; tokens = tokens_fit }
