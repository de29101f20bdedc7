use Rattle.jd_reach.proofs.Bits.{bit_written}
use Rattle.jd_reach.proofs.rows.set.Goals as goal

pub returns : goal.returns
returns c = bit_written c.args.width c.args.words.now c.args.row c.args.bit c.requires.row c.requires.bit
