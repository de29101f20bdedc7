use Rattle.jd_update_truth.proofs.AllLaws.{replaced_values}
use Rattle.jd_update_truth.proofs.replaced_values.Goals as goal

pub returns : goal.returns
returns c = replaced_values
