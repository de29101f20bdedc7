use Rattle.std.proofs.Common.{map, take}
use Rattle.jd_row_data.specs.Data.{goal_data}
use Rattle.jd_row_data.specs.Gives.{GivesGoals}
use Rattle.jd_row_data.proofs.lists.goals.Given as goal

abbrev pub invariant-loop-n : goal.invariant-loop-n
invariant-loop-n l = GivesGoals l.made (map goal_data (take l.n-index l.all))
