use Rattle.jd_jseen.proofs.Routines.{members_are_routines, routines_are_members}
use Rattle.jd_jseen.proofs.laws.numbers_of_routines.Goals as goal

pub returns-clause-members : goal.returns-clause-members
returns-clause-members c = routines_are_members

pub returns-clause-routines : goal.returns-clause-routines
returns-clause-routines c = members_are_routines
