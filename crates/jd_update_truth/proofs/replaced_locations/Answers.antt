use Rattle.jd_update_truth.proofs.AllLaws.{replaced_locations}
use Rattle.jd_update_truth.proofs.replaced_locations.Goals as goal

pub returns : goal.returns
returns c = replaced_locations
