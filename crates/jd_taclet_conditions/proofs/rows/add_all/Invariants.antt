use Rattle.std.proofs.Common.{◌≡◌, drop, flat_map}
use Rattle.jd_schema_instances.specs.Choosing.{instance_by}
use Rattle.jd_schema_matching.specs.Tested.{tests}
use Rattle.jd_schema_trees.specs.TacletViews.{condition}
use Rattle.jd_sequent.specs.Obligations.{task_view}
use Rattle.jd_taclet_matching.specs.Given.{with_more}
use Rattle.jd_taclet_matching.specs.OwnedParts.{owned_entries}
use Rattle.jd_taclet_stages.specs.Conditions.{conditions_told}
use Rattle.jd_taclet_conditions.proofs.rows.add_all.Given as goal

-- what is there, and what those that are left tell
abbrev pub invariant-loop-c : goal.invariant-loop-c
invariant-loop-c l =
    with_more (owned_entries l.made) (conditions_told tests (task_view l.task) (instance_by l.by) (flat_map condition (drop l.c-index l.conds)))
    ≡ with_more (owned_entries l.fn.made) (conditions_told tests (task_view l.task) (instance_by l.by) (flat_map condition l.conds))
