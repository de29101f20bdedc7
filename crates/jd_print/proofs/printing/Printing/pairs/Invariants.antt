use Rattle.std.proofs.Common.{◌≡◌, drop, map}
use Rattle.jd_term.specs.Formulas.{pair_view}
use Rattle.jd_written.specs.Written.{Text}
use Rattle.jd_tgrammar.specs.Spelling.{pairs_text}
use Rattle.jd_print.specs.Printings.{Holds}
use Rattle.jd_print.specs.Writing.{write_many}
use Rattle.jd_print.proofs.printing.Printing.pairs.Given as goal

-- what is left is written behind what is written so far
abbrev pub invariant-loop-pair : goal.invariant-loop-pair
invariant-loop-pair g l =
    (t : Text) → Holds l.fn.self t
    → (v : Text) × Holds l.out v
    × (write_many v (pairs_text (g.N.NameTexts.table l.names) (map pair_view (drop l.pair-index l.pairs))) ≡ write_many t (pairs_text (g.N.NameTexts.table l.names) (map pair_view l.pairs)))
