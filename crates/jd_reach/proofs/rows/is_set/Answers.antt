use Rattle.jd_reach.proofs.Bits.{bit_read}
use Rattle.jd_reach.proofs.rows.is_set.Goals as goal

pub returns : goal.returns
returns c = bit_read c.args.width c.args.words.now c.args.row c.args.bit
