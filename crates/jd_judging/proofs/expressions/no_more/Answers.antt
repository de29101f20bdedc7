use Rattle.jd_judging.proofs.Parameters.{some_left}
use Rattle.jd_judging.proofs.expressions.no_more.Goals as goal

pub returns-then-count-parameters : goal.returns-then-count-parameters
returns-then-count-parameters c = some_left c.args.count c.args.parameters.now c.if-count-parameters.true
