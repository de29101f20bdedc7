use Rattle.jd_taclets.proofs.WorkedRows.{rows_are_found}
use Rattle.jd_taclets.proofs.laws.worked_rows_are_found.Goals as goal

pub returns : goal.returns
returns c = rows_are_found
