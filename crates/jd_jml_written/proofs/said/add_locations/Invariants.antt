use Rattle.std.proofs.Common.{◌≡◌, ◌++◌, drop, flat_map, map}
use Rattle.jd_syntax.specs.SpecTrees.{clause_view, location_view}
use Rattle.jd_jml_written.specs.Said.{locations_in}
use Rattle.jd_jml_written.proofs.said.add_locations.Given as goal

-- those so far, and what the clauses that are left add
abbrev pub invariant-loop-c : goal.invariant-loop-c
invariant-loop-c l = map location_view l.made.items ++ flat_map locations_in (map clause_view (drop l.c-index l.cs)) ≡ map location_view l.fn.made.items ++ flat_map locations_in (map clause_view l.cs)
