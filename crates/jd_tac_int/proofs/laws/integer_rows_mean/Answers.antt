use Rattle.jd_tac_int.proofs.Rows.{all_mean}
use Rattle.jd_tac_int.proofs.laws.integer_rows_mean.Goals as goal

pub returns : goal.returns
returns c = all_mean
