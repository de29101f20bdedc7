use Rattle.jd_syntax.proofs.+copy_code.Given as goal
use Rattle.jd_syntax.specs.CodeViews.{expr_view, stmt_view}
use Rattle.std.proofs.Common.{◌≡◌, map, take}

abbrev pub invariant-copy::copy_stmts-loop-s : goal.invariant-copy::copy_stmts-loop-s
invariant-copy::copy_stmts-loop-s l = map stmt_view l.copies.items ≡ map stmt_view (take l.s-index l.stmts)

abbrev pub invariant-copy::copy_exprs-loop-e : goal.invariant-copy::copy_exprs-loop-e
invariant-copy::copy_exprs-loop-e l = map expr_view l.copies.items ≡ map expr_view (take l.e-index l.exprs)
