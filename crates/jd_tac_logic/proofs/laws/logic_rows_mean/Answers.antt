use Rattle.jd_tac_logic.proofs.Rows.{all_mean}
use Rattle.jd_tac_logic.proofs.laws.logic_rows_mean.Goals as goal

pub returns : goal.returns
returns c = all_mean
