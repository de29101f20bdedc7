use Rattle.jd_judging.proofs.Parameters.{one_more}
use Rattle.jd_judging.proofs.expressions.+judged.Goals as goal

pub arguments-loop-left-preserved : goal.arguments-loop-left-preserved
arguments-loop-left-preserved g t c =
    one_more (g.D.Declares.declarations c.args.d.now) c.args.place ((g.S.InScope.scope c.args.scope.now).locals) c.args.es.now c.args.parameters.now c.loop-left.left c.loop-left.fit c.argument_gives-fit.result
    c.index-es-left.result c.judged-e.result.0 c.judged-e.result.1 c.loop-left-test.true c.loop-left.invariant c.index-es-left.is c.judged-e.ensures.at c.judged-e.ensures.given c.argument_gives-fit.ensures
