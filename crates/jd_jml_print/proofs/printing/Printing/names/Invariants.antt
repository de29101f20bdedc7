use Rattle.std.proofs.Common.{◌≡◌, ℕ, List, drop, map, false}
use Rattle.jd_syntax.specs.JavaTypes.{identifier_view}
use Rattle.jd_jml_print.specs.Writing.{Holds, write_names}
use Rattle.jd_jml_print.proofs.printing.Printing.names.Given as goal

-- what is left is written behind what is written so far
abbrev pub invariant-loop-name : goal.invariant-loop-name
invariant-loop-name l =
    (w : List ℕ) → Holds l.fn.self w
    → (v : List ℕ) × Holds l.out v × (write_names l.more v (map identifier_view (drop l.name-index l.names)) ≡ write_names false w (map identifier_view l.names))
