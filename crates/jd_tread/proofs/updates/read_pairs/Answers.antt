use Rattle.jd_tread.proofs.Many.{pairs_grow}
use Rattle.jd_tread.proofs.updates.read_pairs.Goals as goal

pub loop-part-preserved : goal.loop-part-preserved
loop-part-preserved g c =
    pairs_grow (g.N.NameMeanings.table c.args.names.now) c.args.binders.now c.args.parts.now c.loop-part.part-index c.loop-part.pairs.items c.push.new.self.items c.part-item.result _ c.in-Some.pair
    c.loop-part.invariant c.loop-part-test.true c.part-item.is c.in_ok-pair.ensures c.in-Some.is c.in_ok-push.ensures.items
