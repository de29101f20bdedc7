use Rattle.std.proofs.Common.{◌≡◌, drop, map}
use Rattle.jd_syntax.specs.CodeNames.{named_in_code, named_in_exprs}
use Rattle.jd_syntax.specs.CodeViews.{expr_view, stmt_view}
use Rattle.jd_syntax.specs.Codes.{exprs_of, stmts_of}
use Rattle.jd_syntax.specs.Names.{var_view}
use Rattle.jd_taclet_matching.proofs.named.+named.Given as goal

-- what is left decides
abbrev pub invariant-named_in_exprs-loop-e : goal.invariant-named_in_exprs-loop-e
invariant-named_in_exprs-loop-e l =
    named_in_exprs (var_view l.v) (exprs_of (map expr_view l.exprs)) ≡ named_in_exprs (var_view l.v) (exprs_of (map expr_view (drop l.e-index l.exprs)))

-- the same
abbrev pub invariant-named_in_stmts-loop-s : goal.invariant-named_in_stmts-loop-s
invariant-named_in_stmts-loop-s l =
    named_in_code (var_view l.v) (stmts_of (map stmt_view l.stmts)) ≡ named_in_code (var_view l.v) (stmts_of (map stmt_view (drop l.s-index l.stmts)))
