use Rattle.std.proofs.Common.{[]}
use Rattle.jd_syntax.specs.Codes.{NullLiteral}
use Rattle.jd_expression_code.proofs.assignments.no_steps.Goals as goal

pub returns : goal.returns
returns c = λ q. c.do_then.ensures [] NullLiteral c.no_stmts.ensures c.null.ensures
