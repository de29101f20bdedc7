use Rattle.std.proofs.Common.{◌≡◌, map, drop}
use Rattle.jd_schema_matching.specs.Bound.{looked}
use Rattle.jd_schema_matching.specs.PartViews.{entry_view, part_view}
use Rattle.jd_schema_matching.proofs.found.look.Given as goal

abbrev pub invariant-loop-e : goal.invariant-loop-e
invariant-loop-e l = looked l.n (part_view l.x) (map entry_view (drop l.e-index l.entries)) ≡ looked l.n (part_view l.x) (map entry_view l.entries)
