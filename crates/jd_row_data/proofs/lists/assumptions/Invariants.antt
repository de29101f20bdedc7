use Rattle.std.proofs.Common.{map, take}
use Rattle.jd_row_data.specs.Data.{assumed_data}
use Rattle.jd_row_data.specs.Gives.{GivesAssumptions}
use Rattle.jd_row_data.proofs.lists.assumptions.Given as goal

abbrev pub invariant-loop-a : goal.invariant-loop-a
invariant-loop-a l = GivesAssumptions l.made (map assumed_data (take l.a-index l.all))
