use Rattle.jd_taclets.proofs.WorkedRows.{rows_mean}
use Rattle.jd_taclets.proofs.laws.worked_rows_mean.Goals as goal

pub returns : goal.returns
returns c = rows_mean
