use Rattle.jd_syntax.proofs.+equal_sx.Given as goal
use Rattle.jd_syntax.specs.Sxs.{sx_view}
use Rattle.std.proofs.Common.{◌≡◌, length, map, take}

abbrev pub invariant-equal::equal_parts-loop-i : goal.invariant-equal::equal_parts-loop-i
invariant-equal::equal_parts-loop-i l = (length l.a ≡ length l.b) × (map sx_view (take l.i l.a) ≡ map sx_view (take l.i l.b))
