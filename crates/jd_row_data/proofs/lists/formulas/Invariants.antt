use Rattle.std.proofs.Common.{map, take}
use Rattle.jd_row_data.specs.Data.{formula_data}
use Rattle.jd_row_data.specs.Gives.{GivesFormulas}
use Rattle.jd_row_data.proofs.lists.formulas.Given as goal

abbrev pub invariant-loop-a : goal.invariant-loop-a
invariant-loop-a l = GivesFormulas l.made (map formula_data (take l.a-index l.all))
