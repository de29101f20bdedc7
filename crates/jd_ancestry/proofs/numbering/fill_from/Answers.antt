use Rattle.std.proofs.Common.{◌+◌, ◌≤◌, length, arith}
use Rattle.jd_ancestry.specs.Walks.{unstamped}
use Rattle.jd_ancestry.proofs.Numbers.{few_at_end, fits, next_filled, small_at_end}
use Rattle.jd_ancestry.proofs.numbering.fill_from.Goals as goal

pub depth_below-lowest-requires-clause-fits : goal.depth_below-lowest-requires-clause-fits
depth_below-lowest-requires-clause-fits c =
    small_at_end c.walk_up-walk.result.end c.args.depths.now (unstamped c.args.stamps.now) (length c.args.parents.now) 4294967295
    (few_at_end c.args.parents.now c.args.stamps.now c.walk_up-walk.new.stamps c.args.depths.now c.args.start c.walk_up-walk.result.count c.requires.no_cycle c.requires.filled c.walk_up-walk.ensures.walk
    c.walk_up-walk.ensures.stopped c.walk_up-walk.result.end c.walk_up-walk.ensures.end)
    (omega (arith, c.requires.few))

pub number_from-requires-clause-fits : goal.number_from-requires-clause-fits
number_from-requires-clause-fits c =
    let space : c.depth_below-lowest.result + unstamped c.args.stamps.now ≤ length c.args.parents.now =
    fits c.args.parents.now c.args.stamps.now c.walk_up-walk.new.stamps c.args.depths.now c.args.start c.walk_up-walk.result.count c.requires.no_cycle c.requires.filled c.walk_up-walk.ensures.walk
    c.walk_up-walk.ensures.stopped
    c.walk_up-walk.result.end c.depth_below-lowest.result c.walk_up-walk.ensures.end c.depth_below-lowest.ensures in
    omega (arith, space, c.requires.few, c.walk_up-walk.ensures.walk.counted)

pub number_from-requires-clause-reached : goal.number_from-requires-clause-reached
number_from-requires-clause-reached c = λ k lt. let passed = c.walk_up-walk.ensures.walk.passed k lt in (passed.0, passed.1)

pub returns : goal.returns
returns c =
    next_filled c.args.parents.now c.args.stamps.now c.walk_up-walk.new.stamps c.args.depths.now c.args.start c.walk_up-walk.result.count c.requires.no_cycle c.requires.filled c.walk_up-walk.ensures.walk
    c.walk_up-walk.ensures.stopped
    c.number_from.new.depths c.walk_up-walk.result.end c.depth_below-lowest.result c.walk_up-walk.ensures.end c.depth_below-lowest.ensures c.number_from.ensures c.walk_up-walk.auto.stamps c.number_from.auto.depths
