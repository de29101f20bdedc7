use Rattle.jd_model.specs.Truth.{InvTruth}
use Rattle.jd_jml_meaning.specs.InvariantFormulas.{setting_of}
use Rattle.jd_jml_meaning.specs.JmlContracts.{InvariantHolds}
use Rattle.jd_jml_meaning.proofs.Spelled.{holds}
use Rattle.jd_jml_meaning.proofs.InvariantsHold.{invariants_mean}
use Rattle.jd_jml_meaning.proofs.formulas_hold.Goals as goal

pub returns : goal.returns
returns c p own d sp i s w st t b e = holds (setting_of p own) sp i s w st d (InvTruth (setting_of p own) d) (InvariantHolds p own) (invariants_mean p own d) t b e
