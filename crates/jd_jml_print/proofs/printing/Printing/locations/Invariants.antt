use Rattle.std.proofs.Common.{◌≡◌, ℕ, List, drop, map, false}
use Rattle.jd_syntax.specs.SpecTrees.{location_view}
use Rattle.jd_jml_print.specs.Writing.{Holds, write_locations}
use Rattle.jd_jml_print.proofs.printing.Printing.locations.Given as goal

-- what is left is written behind what is written so far
abbrev pub invariant-loop-location : goal.invariant-loop-location
invariant-loop-location l =
    (w : List ℕ) → Holds l.fn.self w
    → (v : List ℕ) × Holds l.out v × (write_locations l.more v (map location_view (drop l.location-index l.locations)) ≡ write_locations false w (map location_view l.locations))
