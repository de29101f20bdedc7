use Rattle.std.proofs.Common.{◌+◌, Some, None, sym, arith}
use Rattle.jd_ancestry.proofs.Ancestry.{next_read, read_parent}
use Rattle.jd_ancestry.proofs.Steps.{one_more_step, stops_at_top, stops_there}
use Rattle.jd_ancestry.proofs.walks.walk_up.Goals as goal

pub loop-stamps-preserved : goal.loop-stamps-preserved
loop-stamps-preserved c =
    let parent = read_parent c.args.parents.now c.loop-stamps.node _ (Some c.in-Some.parent) c.loop-stamps.invariant.inside c.in-Some.is in
    record {
      walk = one_more_step c.args.parents.now c.args.stamps.now c.args.start c.args.stamp c.loop-stamps.stamps c.loop-stamps.count c.loop-stamps.node
          (omega arith) c.loop-stamps.invariant.inside c.requires.stamp c.loop-stamps-test.true c.loop-stamps.invariant.there c.loop-stamps.invariant.walk;
      there = next_read c.args.parents.now c.args.start c.loop-stamps.count c.loop-stamps.node _ (Some c.in-Some.parent) c.loop-stamps.invariant.there c.loop-stamps.invariant.inside c.in-Some.is;
      inside = c.requires.nodes c.in-Some.parent c.loop-stamps.node parent;
    }

pub returns-in-None-clause-walk : goal.returns-in-None-clause-walk
returns-in-None-clause-walk c =
    one_more_step c.args.parents.now c.args.stamps.now c.args.start c.args.stamp c.loop-stamps.stamps c.loop-stamps.count c.loop-stamps.node
    (omega arith) c.loop-stamps.invariant.inside c.requires.stamp c.loop-stamps-test.true c.loop-stamps.invariant.there c.loop-stamps.invariant.walk

pub returns-in-None-clause-end : goal.returns-in-None-clause-end
returns-in-None-clause-end c =
    sym (next_read c.args.parents.now c.args.start c.loop-stamps.count c.loop-stamps.node _ None c.loop-stamps.invariant.there c.loop-stamps.invariant.inside c.in-None.is)

pub returns-in-None-clause-stopped : goal.returns-in-None-clause-stopped
returns-in-None-clause-stopped c =
    stops_at_top c.args.parents.now _ c.args.start (c.loop-stamps.count + 1)
    (next_read c.args.parents.now c.args.start c.loop-stamps.count c.loop-stamps.node _ None c.loop-stamps.invariant.there c.loop-stamps.invariant.inside c.in-None.is)

pub returns-clause-stopped : goal.returns-clause-stopped
returns-clause-stopped c =
    stops_there c.args.parents.now c.loop-stamps.stamps c.args.start c.loop-stamps.count c.loop-stamps.node c.loop-stamps.invariant.there c.loop-stamps-test.false
