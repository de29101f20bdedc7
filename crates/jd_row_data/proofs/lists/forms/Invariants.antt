use Rattle.std.proofs.Common.{map, take}
use Rattle.jd_row_data.specs.Gives.{SayAll}
use Rattle.jd_row_data.specs.Said.{said_of_given}
use Rattle.jd_row_data.proofs.lists.forms.Given as goal

abbrev pub invariant-loop-g : goal.invariant-loop-g
invariant-loop-g l = SayAll l.made (map said_of_given (take l.g-index l.all))
