use Rattle.jd_syntax.proofs.+equal_code.Given as goal
use Rattle.jd_syntax.specs.CodeViews.{expr_view, stmt_view}
use Rattle.std.proofs.Common.{◌≡◌, length, map, take}

abbrev pub invariant-equal::equal_stmts-loop-i : goal.invariant-equal::equal_stmts-loop-i
invariant-equal::equal_stmts-loop-i l = (length l.a ≡ length l.b) × (map stmt_view (take l.i l.a) ≡ map stmt_view (take l.i l.b))

abbrev pub invariant-equal::equal_exprs-loop-i : goal.invariant-equal::equal_exprs-loop-i
invariant-equal::equal_exprs-loop-i l = (length l.a ≡ length l.b) × (map expr_view (take l.i l.a) ≡ map expr_view (take l.i l.b))
