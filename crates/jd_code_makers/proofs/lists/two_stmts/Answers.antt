use Rattle.std.proofs.Common.{[], ◌∷◌}
use Rattle.jd_code_makers.proofs.lists.two_stmts.Goals as goal

pub returns : goal.returns
returns c = λ x y is other. c.with_stmt.ensures (x ∷ []) y (c.one_stmt.ensures x is) other
