use Rattle.jd_jml_trimmed.proofs.Trees.{trimmed}
use Rattle.jd_jml_trimmed.proofs.laws.derivations_are_trimmed.Goals as goal

pub returns : goal.returns
returns c = trimmed
