use Rattle.std.proofs.Common.{arith}
use Rattle.jd_tread.proofs.Many.{some_pairs}
use Rattle.jd_tread.proofs.updates.pairs_behind.Goals as goal

pub returns-in-Some : goal.returns-in-Some
returns-in-Some g c =
    some_pairs (g.N.NameMeanings.table c.args.names.now) c.args.binders.now c.args.parts.now _ c.in-Some.pairs (omega arith) c.in_ok-read_pairs-in-len1-up.ensures c.in-Some.is
