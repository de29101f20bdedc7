use Rattle.jd_jml_meaning.specs.JmlContracts.{InvariantHolds}
use Rattle.jd_jml_meaning.proofs.StableHolds.{stable_holds}
use Rattle.jd_jml_meaning.proofs.InvariantsHold.{invariants_stable}
use Rattle.jd_jml_meaning.proofs.meaning_is_stable.Goals as goal

pub returns : goal.returns
returns c p own w t b e = stable_holds p w (InvariantHolds p own) (invariants_stable p own) t b e
