use Rattle.std.proofs.Common.{◌≡◌, drop, map}
use Rattle.jd_syntax.specs.CodeViews.{expr_view, stmt_view}
use Rattle.jd_syntax.specs.Codes.{exprs_of, stmts_of}
use Rattle.jd_written.specs.Written.{Text}
use Rattle.jd_tgrammar.specs.Spelling.{exprs_text, stmts_text}
use Rattle.jd_print.specs.Printings.{Holds}
use Rattle.jd_print.specs.Writing.{write_many}
use Rattle.jd_print.proofs.printing.Printing.+code.Given as goal

-- what is left is written behind what is written so far
abbrev pub invariant-exprs-loop-expr : goal.invariant-exprs-loop-expr
invariant-exprs-loop-expr g l =
    (t : Text) → Holds l.fn.self t
    → (v : Text) × Holds l.out v
    × (write_many v (exprs_text (g.N.NameTexts.table l.names) (exprs_of (map expr_view (drop l.expr-index l.exprs)))) ≡ write_many t (exprs_text (g.N.NameTexts.table l.names) (exprs_of (map expr_view l.exprs))))

abbrev pub invariant-stmts-loop-stmt : goal.invariant-stmts-loop-stmt
invariant-stmts-loop-stmt g l =
    (t : Text) → Holds l.fn.self t
    → (v : Text) × Holds l.out v
    × (write_many v (stmts_text (g.N.NameTexts.table l.names) (stmts_of (map stmt_view (drop l.stmt-index l.stmts)))) ≡ write_many t (stmts_text (g.N.NameTexts.table l.names) (stmts_of (map stmt_view l.stmts))))
