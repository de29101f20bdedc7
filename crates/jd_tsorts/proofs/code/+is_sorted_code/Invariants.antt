use Rattle.std.proofs.Common.{◌≡◌, drop, map}
use Rattle.jd_syntax.specs.CodeViews.{expr_view, stmt_view}
use Rattle.jd_syntax.specs.Codes.{exprs_of, stmts_of}
use Rattle.jd_tgrammar.specs.Spelling.{routine}
use Rattle.jd_tforms.specs.Sorted.{code_sorted, operands_sorted}
use Rattle.jd_tsorts.specs.Returned.{returns_view}
use Rattle.jd_tsorts.proofs.Operands.{sorted_from}
use Rattle.jd_tsorts.proofs.code.+is_sorted_code.Given as goal

-- what is left decides
abbrev pub invariant-are_sorted_operands-loop-number : goal.invariant-are_sorted_operands-loop-number
invariant-are_sorted_operands-loop-number g l =
    operands_sorted (g.N.NameMeanings.table l.names) (returns_view l.returns) (routine (g.N.NameMeanings.table l.names) l.method.0).parameters (exprs_of (map expr_view l.operands))
    ≡ sorted_from (g.N.NameMeanings.table l.names) (returns_view l.returns) (routine (g.N.NameMeanings.table l.names) l.method.0).parameters l.operands l.number

-- the same
abbrev pub invariant-are_sorted_stmts-loop-stmt : goal.invariant-are_sorted_stmts-loop-stmt
invariant-are_sorted_stmts-loop-stmt g l =
    code_sorted (g.N.NameMeanings.table l.names) (returns_view l.returns) (stmts_of (map stmt_view l.stmts))
    ≡ code_sorted (g.N.NameMeanings.table l.names) (returns_view l.returns) (stmts_of (map stmt_view (drop l.stmt-index l.stmts)))
