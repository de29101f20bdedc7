use Rattle.std.proofs.Common.{refl, arith}
use Rattle.jd_grammar.proofs.Walking.{leaf_left, leaf_walked, node_left, quiet_walked}
use Rattle.jd_grammar.proofs.walk.quiet_run.Goals as goal

pub overflow_sub-at : goal.overflow_sub-at
overflow_sub-at g c =
    let i = (leaf_left c.args.order.now c.loop-left.left c.loop-left.at c.loop-left-test.true c.if-entry-eq0.true c.loop-left.invariant.place).0 in
    omega (arith, i)

pub loop-left-preserved-then-entry-eq0 : goal.loop-left-preserved-then-entry-eq0
loop-left-preserved-then-entry-eq0 g c =
    let few = c.loop-left.invariant.fewer in
    record {
      fewer = omega (arith, few);
      place = (leaf_left c.args.order.now c.loop-left.left c.loop-left.at c.loop-left-test.true c.if-entry-eq0.true c.loop-left.invariant.place).1;
      walked = λ ts rest h. leaf_walked _ _ c.args.order.now ts c.loop-left.left c.loop-left.at _ c.loop-left-test.true c.if-entry-eq0.true (c.loop-left.invariant.walked ts rest h);
    }

pub loop-left-preserved : goal.loop-left-preserved
loop-left-preserved g c =
    let few = c.loop-left.invariant.fewer in
    record {
      fewer = omega (arith, few);
      place = node_left c.args.order.now c.loop-left.left c.loop-left.at c.loop-left-test.true c.if-entry-eq0.false c.loop-left.invariant.place;
      walked = λ ts rest h. quiet_walked (g.N.Nodes.count c.args.nodes.now) (g.N.Nodes.stands c.args.nodes.now) g.V.Blank.nothing c.args.order.now ts c.loop-left.left c.loop-left.at _ c.loop-left.nothing c.in-Some.more rest c.loop-left-test.true c.if-entry-eq0.false refl c.in-Some.ensures (c.loop-left.invariant.walked ts rest h);
    }
