use Rattle.jd_tac_logic.proofs.Finds.{all_finds}
use Rattle.jd_tac_logic.proofs.laws.logic_rows_are_found.Goals as goal

pub returns : goal.returns
returns c = all_finds
