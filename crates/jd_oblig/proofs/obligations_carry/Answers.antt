use Rattle.jd_oblig.proofs.Links.{obligations_carry}
use Rattle.jd_oblig.proofs.obligations_carry.Goals as goal

pub returns : goal.returns
returns c = obligations_carry
