use Rattle.jd_update_truth.proofs.AllLaws.{simplified_formula}
use Rattle.jd_update_truth.proofs.simplified_formula.Goals as goal

pub returns : goal.returns
returns c = simplified_formula
