use Rattle.jd_components.proofs.Tying.{joined, turned}
use Rattle.jd_components.proofs.Uniqueness.{one_numbering}
use Rattle.jd_components.proofs.laws.components_are_one.Goals as goal

pub returns-clause-symmetric : goal.returns-clause-symmetric
returns-clause-symmetric c = turned

pub returns-clause-transitive : goal.returns-clause-transitive
returns-clause-transitive c = joined

pub returns-clause-one : goal.returns-clause-one
returns-clause-one c = one_numbering
