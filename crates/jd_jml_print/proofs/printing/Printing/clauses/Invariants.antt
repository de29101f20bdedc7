use Rattle.std.proofs.Common.{◌≡◌, ℕ, List, drop, map}
use Rattle.jd_syntax.specs.SpecTrees.{clause_view}
use Rattle.jd_jml_print.specs.Writing.{Holds, write_clauses}
use Rattle.jd_jml_print.proofs.printing.Printing.clauses.Given as goal

-- what is left is written behind what is written so far
abbrev pub invariant-loop-clause : goal.invariant-loop-clause
invariant-loop-clause l =
    (w : List ℕ) → Holds l.fn.self w
    → (v : List ℕ) × Holds l.out v × (write_clauses v (map clause_view (drop l.clause-index l.clauses)) ≡ write_clauses w (map clause_view l.clauses))
