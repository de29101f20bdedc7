use Rattle.jd_tforms.proofs.Whole.{read_is_written}
use Rattle.jd_tforms.proofs.read_is_written.Goals as goal

pub returns : goal.returns
returns c = read_is_written
