use Rattle.std.proofs.Common.{◌≡◌, ◌++◌, ◌+◌, drop, map}
use Rattle.jd_term.specs.Formulas.{formula_view}
use Rattle.jd_sequent_print.specs.Lines.{lines}
use Rattle.jd_sequent_print.proofs.sequents.add_lines.Given as goal

-- what is left is added to what is added so far
abbrev pub invariant-loop-i : goal.invariant-loop-i
invariant-loop-i g l =
    l.out.items ++ lines (g.N.NameTexts.table l.names) l.letter (l.i + 1) (map formula_view (drop l.i l.formulas))
    ≡ l.fn.out.items ++ lines (g.N.NameTexts.table l.names) l.letter 1 (map formula_view l.formulas)
