use Rattle.jd_jml_read_back.proofs.Back.{back}
use Rattle.jd_jml_read_back.proofs.laws.printed_is_read_back.Goals as goal

pub returns : goal.returns
returns c = back c.printed_is_read.ensures
