use Rattle.jd_term.proofs.equality.equal_pairs.Given as goal
use Rattle.jd_term.specs.Formulas.{pair_view}
use Rattle.std.proofs.Common.{◌≡◌, length, map, take}

abbrev pub invariant-loop-i : goal.invariant-loop-i
invariant-loop-i l = (length l.a ≡ length l.b) × (map pair_view (take l.i l.a) ≡ map pair_view (take l.i l.b))
