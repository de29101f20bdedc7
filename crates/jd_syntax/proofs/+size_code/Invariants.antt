use Rattle.jd_syntax.proofs.+size_code.Given as goal
use Rattle.jd_syntax.specs.CodeSizes.{code_size, exprs_size}
use Rattle.jd_syntax.specs.CodeViews.{expr_view, stmt_view}
use Rattle.jd_syntax.specs.Codes.{exprs_of, stmts_of}
use Rattle.std.proofs.Common.{◌≡◌, ◌+◌, ◌-◌, ◌^◌, ◌<◌, drop, map, min}

abbrev pub invariant-size::size_stmts-loop-s : goal.invariant-size::size_stmts-loop-s
invariant-size::size_stmts-loop-s l =
    (l.size < 2 ^ 64) × (min (l.size + code_size (stmts_of (map stmt_view (drop l.s-index l.stmts)))) (2 ^ 64 - 1) ≡ min (code_size (stmts_of (map stmt_view l.stmts))) (2 ^ 64 - 1))

abbrev pub invariant-size::size_exprs-loop-e : goal.invariant-size::size_exprs-loop-e
invariant-size::size_exprs-loop-e l =
    (l.size < 2 ^ 64) × (min (l.size + exprs_size (exprs_of (map expr_view (drop l.e-index l.exprs)))) (2 ^ 64 - 1) ≡ min (exprs_size (exprs_of (map expr_view l.exprs))) (2 ^ 64 - 1))
