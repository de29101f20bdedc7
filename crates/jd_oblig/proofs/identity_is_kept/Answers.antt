use Rattle.jd_oblig.proofs.IdentityExample.{identity_is_kept}
use Rattle.jd_oblig.proofs.identity_is_kept.Goals as goal

pub returns : goal.returns
returns c = identity_is_kept
