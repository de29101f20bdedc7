use Rattle.jd_syntax.proofs.+loops.Given as goal
use Rattle.jd_syntax.specs.CodeNames.{exprs_have_loop, has_loop}
use Rattle.jd_syntax.specs.CodeViews.{expr_view, stmt_view}
use Rattle.jd_syntax.specs.Codes.{exprs_of, stmts_of}
use Rattle.std.proofs.Common.{◌≡◌, drop, map}

abbrev pub invariant-mentions::stmts_have_loop-loop-s : goal.invariant-mentions::stmts_have_loop-loop-s
invariant-mentions::stmts_have_loop-loop-s l =
    has_loop (stmts_of (map stmt_view l.stmts)) ≡ has_loop (stmts_of (map stmt_view (drop l.s-index l.stmts)))

abbrev pub invariant-mentions::exprs_have_loop-loop-e : goal.invariant-mentions::exprs_have_loop-loop-e
invariant-mentions::exprs_have_loop-loop-e l =
    exprs_have_loop (exprs_of (map expr_view l.exprs)) ≡ exprs_have_loop (exprs_of (map expr_view (drop l.e-index l.exprs)))
