use Rattle.jd_nearest.proofs.Cells.{IsRowBegun}
use Rattle.jd_nearest.proofs.rows.fill_row.Given as goal

abbrev pub invariant-loop-k : goal.invariant-loop-k
invariant-loop-k l = IsRowBegun l.width l.fn.values l.values l.node l.parent l.k
