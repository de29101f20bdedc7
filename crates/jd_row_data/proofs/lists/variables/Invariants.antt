use Rattle.std.proofs.Common.{map, take}
use Rattle.jd_row_data.specs.Gives.{GivesVariables}
use Rattle.jd_row_data.specs.Names.{given_name}
use Rattle.jd_row_data.proofs.lists.variables.Given as goal

abbrev pub invariant-loop-g : goal.invariant-loop-g
invariant-loop-g l = GivesVariables l.made (map given_name (take l.g-index l.all))
