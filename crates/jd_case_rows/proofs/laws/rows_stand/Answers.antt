use Rattle.jd_case_rows.proofs.Standing.{row_stands}
use Rattle.jd_case_rows.proofs.laws.rows_stand.Goals as goal

pub returns : goal.returns
returns c = λ j fields listed case_ body own speaks fits. row_stands j fields listed case_ body own speaks fits
