use Rattle.std.proofs.Common.{◌≡◌, drop, map}
use Rattle.jd_schema_matching.specs.PartViews.{bindings}
use Rattle.jd_schema_matching.specs.Tested.{tests}
use Rattle.jd_taclet_stages.specs.Stages.{bind_all}
use Rattle.jd_taclet_matching.specs.OwnedParts.{owned_entry}
use Rattle.jd_taclet_matching.proofs.owned.bind_all.Given as goal

abbrev pub invariant-loop-entry : goal.invariant-loop-entry
invariant-loop-entry l = bind_all tests (map owned_entry (drop l.entry-index l.entries)) (bindings l.found) ≡ bind_all tests (map owned_entry l.entries) (bindings l.initial.found)
