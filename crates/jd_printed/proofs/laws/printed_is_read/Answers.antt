use Rattle.jd_printed.proofs.Readback as laws
use Rattle.jd_printed.proofs.laws.printed_is_read.Goals as goal

pub returns : goal.returns
returns c = laws.printed_is_read
