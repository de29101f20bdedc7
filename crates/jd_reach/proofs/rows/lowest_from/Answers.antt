use Rattle.std.proofs.Common.{◌<◌, ◌/◌, ◌^◌, arith}
use Rattle.jd_reach.proofs.Bits.{none_from, lowest_set, lowest_first}
use Rattle.jd_reach.proofs.rows.lowest_from.Goals as goal

pub returns-then-rest-eq0-clause-lowest : goal.returns-then-rest-eq0-clause-lowest
returns-then-rest-eq0-clause-lowest c b le set = none_from c.args.word c.args.from b c.if-rest-eq0.true le set

pub returns-clause-found : goal.returns-clause-found
returns-clause-found c =
    let more : 0 < c.args.word / 2 ^ c.args.from = omega arith in
    let low = lowest_set c.args.word c.args.from c.ranges.word.fits more in
    (omega arith, low.0, low.1)

pub returns-clause-lowest : goal.returns-clause-lowest
returns-clause-lowest c b le set =
    let more : 0 < c.args.word / 2 ^ c.args.from = omega arith in
    lowest_first c.args.word c.args.from c.ranges.word.fits more b le set
