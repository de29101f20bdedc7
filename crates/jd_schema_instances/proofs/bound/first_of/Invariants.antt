use Rattle.std.proofs.Common.{◌≡◌, map, drop}
use Rattle.jd_patterns.specs.Chosen.{bound_to}
use Rattle.jd_schema_matching.specs.PartViews.{entry_view}
use Rattle.jd_schema_matching.specs.Tested.{tests}
use Rattle.jd_schema_instances.specs.Kinds.{var_kind}
use Rattle.jd_schema_instances.proofs.bound.first_of.Given as goal

abbrev pub invariant-loop-e : goal.invariant-loop-e
invariant-loop-e l = bound_to tests (var_kind l.kind, l.n) (map entry_view (drop l.e-index l.entries)) ≡ bound_to tests (var_kind l.kind, l.n) (map entry_view l.entries)
