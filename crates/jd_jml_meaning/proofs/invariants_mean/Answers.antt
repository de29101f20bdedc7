use Rattle.jd_jml_meaning.proofs.InvariantsHold.{invariants_mean}
use Rattle.jd_jml_meaning.proofs.invariants_mean.Goals as goal

pub returns : goal.returns
returns c = invariants_mean
