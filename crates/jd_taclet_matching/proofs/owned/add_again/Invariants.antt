use Rattle.std.proofs.Common.{◌≡◌, ◌++◌, drop, map}
use Rattle.jd_schema_matching.specs.PartViews.{bindings, entry_view}
use Rattle.jd_taclet_matching.proofs.owned.add_again.Given as goal

-- what is there so far, and what is left
abbrev pub invariant-loop-e : goal.invariant-loop-e
invariant-loop-e l = bindings l.all ++ map entry_view (drop l.e-index l.e-items) ≡ bindings l.fn.all ++ bindings l.found
