use Rattle.std.proofs.Common.{◌≡◌, map, take}
use Rattle.jd_syntax.specs.SpecTrees.{location_view}
use Rattle.jd_jml_copies.proofs.copies.copy_locations.Given as goal

-- those so far are copied
abbrev pub invariant-loop-l : goal.invariant-loop-l
invariant-loop-l l = map location_view l.copies.items ≡ map location_view (take l.l-index l.ls)
