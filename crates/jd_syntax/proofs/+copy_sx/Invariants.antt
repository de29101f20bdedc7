use Rattle.jd_syntax.proofs.+copy_sx.Given as goal
use Rattle.jd_syntax.specs.Sxs.{sx_view}
use Rattle.std.proofs.Common.{◌≡◌, map, take}

abbrev pub invariant-copy::copy_parts-loop-x : goal.invariant-copy::copy_parts-loop-x
invariant-copy::copy_parts-loop-x l = map sx_view l.copies.items ≡ map sx_view (take l.x-index l.parts)
