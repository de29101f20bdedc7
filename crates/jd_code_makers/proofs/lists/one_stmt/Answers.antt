use Rattle.std.proofs.Common.{[]}
use Rattle.jd_code_makers.proofs.lists.one_stmt.Goals as goal

pub returns : goal.returns
returns c = λ x is. c.with_stmt.ensures [] x c.no_stmts.ensures is
