use Rattle.jd_syntax.proofs.assigned.+assigned_code.Given as goal
use Rattle.jd_syntax.specs.AssignedNames.{names_of}
use Rattle.jd_syntax.specs.AssignedVariables.{assigned_in_code, assigned_in_exprs}
use Rattle.jd_syntax.specs.CodeViews.{expr_view, stmt_view}
use Rattle.jd_syntax.specs.Codes.{exprs_of, stmts_of}
use Rattle.std.proofs.Common.{◌≡◌, drop, map}

abbrev pub invariant-in_stmts-loop-place : goal.invariant-in_stmts-loop-place
invariant-in_stmts-loop-place l =
    names_of l.found ≡ assigned_in_code (stmts_of (map stmt_view (drop l.place l.stmts))) (names_of l.fn.found)

abbrev pub invariant-in_exprs-loop-place : goal.invariant-in_exprs-loop-place
invariant-in_exprs-loop-place l =
    names_of l.found ≡ assigned_in_exprs (exprs_of (map expr_view (drop l.place l.exprs))) (names_of l.fn.found)
