use Rattle.jd_jml_literals.proofs.Trees.{trees_fit}
use Rattle.jd_jml_literals.proofs.laws.literals_of_jml_fit.Goals as goal

pub returns : goal.returns
returns c = trees_fit
