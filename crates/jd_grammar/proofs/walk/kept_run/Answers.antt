use Rattle.std.proofs.Common.{refl, arith}
use Rattle.jd_grammar.proofs.Walking.{kept_walked}
use Rattle.jd_grammar.proofs.walk.kept_run.Goals as goal

pub loop-left-preserved : goal.loop-left-preserved
loop-left-preserved g c =
    let few = c.loop-left.invariant.fewer in
    record {
      fewer = omega (arith, few);
      walked = λ ts rest h. kept_walked (g.N.Nodes.count c.args.nodes.now) (g.N.Nodes.stands c.args.nodes.now) g.V.Blank.nothing c.args.first.now c.args.order.now ts c.loop-left.left c.args.from.at _ c.loop-left.nothing c.in-Some.less rest c.loop-left-test.true c.if-entry-eq0.false refl c.in-Some.ensures (c.loop-left.invariant.walked ts rest h);
    }
