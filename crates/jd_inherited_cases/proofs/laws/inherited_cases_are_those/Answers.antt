use Rattle.jd_inherited_cases.proofs.Inherited.{inherited_are_those}
use Rattle.jd_inherited_cases.proofs.laws.inherited_cases_are_those.Goals as goal

pub returns : goal.returns
returns c = λ units stand d are. inherited_are_those units d are c.depths_are_an_order.ensures.transitive c.numbers_of_classes.ensures.parents c.lineages_are_classes_up.ensures stand
