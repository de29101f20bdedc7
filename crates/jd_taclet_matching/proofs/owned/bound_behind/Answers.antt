use Rattle.std.proofs.Common.{ap, map, ◌++◌}
use Rattle.jd_schema_matching.specs.PartViews.{bindings}
use Rattle.jd_schema_matching.specs.Tested.{tests}
use Rattle.jd_taclet_stages.specs.Stages.{bind_all}
use Rattle.jd_taclet_matching.specs.OwnedParts.{owned_entry}
use Rattle.jd_taclet_matching.proofs.Ending.{answered_by}
use Rattle.jd_taclet_matching.proofs.Matched.{told_of}
use Rattle.jd_taclet_matching.proofs.owned.bound_behind.Goals as goal

pub returns : goal.returns
returns c =
    answered_by bindings c.bind_behind-whole.result c.bind_behind-whole.new.all c.args.otherwise _ c.ended.result c.ended.ensures
    (told_of c.bind_behind-whole.result _ _ (bindings c.bind_behind-whole.new.all) (ap (λ τ. bind_all tests (map owned_entry c.args.entries.now) (τ ++ bindings c.args.found.now)) c.new-all.ensures) c.bind_behind-whole.ensures)
