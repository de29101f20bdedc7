use Rattle.jd_syntax.proofs.+depth_code.Given as goal
use Rattle.jd_syntax.specs.CodeSizes.{code_depth, exprs_depth}
use Rattle.jd_syntax.specs.CodeViews.{expr_view, stmt_view}
use Rattle.jd_syntax.specs.Codes.{exprs_of, stmts_of}
use Rattle.std.proofs.Common.{◌≡◌, ◌-◌, ◌^◌, ◌<◌, drop, map, max, min}

abbrev pub invariant-size::depth_stmts-loop-s : goal.invariant-size::depth_stmts-loop-s
invariant-size::depth_stmts-loop-s l =
    (l.depth < 2 ^ 64) × (min (max l.depth (code_depth (stmts_of (map stmt_view (drop l.s-index l.stmts))))) (2 ^ 64 - 1) ≡ min (code_depth (stmts_of (map stmt_view l.stmts))) (2 ^ 64 - 1))

abbrev pub invariant-size::depth_exprs-loop-e : goal.invariant-size::depth_exprs-loop-e
invariant-size::depth_exprs-loop-e l =
    (l.depth < 2 ^ 64) × (min (max l.depth (exprs_depth (exprs_of (map expr_view (drop l.e-index l.exprs))))) (2 ^ 64 - 1) ≡ min (exprs_depth (exprs_of (map expr_view l.exprs))) (2 ^ 64 - 1))
