use Rattle.jd_tac_int.proofs.Finds.{all_finds}
use Rattle.jd_tac_int.proofs.laws.integer_rows_are_found.Goals as goal

pub returns : goal.returns
returns c = all_finds
