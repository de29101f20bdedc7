use Rattle.jd_jseen.proofs.Nodes.{members_are_of_classes, parents_are_classes}
use Rattle.jd_jseen.proofs.laws.numbers_of_classes.Goals as goal

pub returns-clause-parents : goal.returns-clause-parents
returns-clause-parents c = parents_are_classes

pub returns-clause-members : goal.returns-clause-members
returns-clause-members c = members_are_of_classes
