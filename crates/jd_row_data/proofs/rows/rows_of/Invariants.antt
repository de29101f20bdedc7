use Rattle.std.proofs.Common.{map, take}
use Rattle.jd_row_data.specs.Data.{row_data}
use Rattle.jd_row_data.specs.Tables.{GivesRows}
use Rattle.jd_row_data.proofs.rows.rows_of.Given as goal

abbrev pub invariant-loop-r : goal.invariant-loop-r
invariant-loop-r l = GivesRows l.made (map row_data (take l.r-index l.table))
