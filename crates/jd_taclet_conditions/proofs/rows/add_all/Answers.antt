use Rattle.std.proofs.Common.{ap, sym, ◌∙◌}
use Rattle.jd_schema_instances.specs.Choosing.{instance_by}
use Rattle.jd_schema_matching.specs.Bound.{answered}
use Rattle.jd_sequent.specs.Obligations.{task_view}
use Rattle.jd_taclet_matching.specs.OwnedParts.{owned_entries}
use Rattle.jd_taclet_conditions.proofs.Telling.{one_holds}
use Rattle.jd_taclet_conditions.proofs.rows.add_all.Goals as goal

pub loop-c-preserved : goal.loop-c-preserved
loop-c-preserved c =
    one_holds (task_view c.args.task.now) (instance_by c.args.by.now) c.args.conds.now c.loop-c.c-index c.c-item.result (owned_entries c.loop-c.made) (owned_entries c.add_one.new.made) c.loop-c-test.true c.c-item.is
    (sym (ap (λ b. answered b (owned_entries c.add_one.new.made)) c.if-not-branch.false) ∙ c.in_ok-add_one.ensures)
    ∙ c.loop-c.invariant
