use Rattle.std.proofs.Common.{map, take}
use Rattle.jd_row_data.specs.Gives.{SayAll}
use Rattle.jd_row_data.specs.Said.{said_of_condition}
use Rattle.jd_row_data.proofs.lists.holdings.Given as goal

abbrev pub invariant-loop-c : goal.invariant-loop-c
invariant-loop-c l = SayAll l.made (map said_of_condition (take l.c-index l.all))
