use Rattle.std.proofs.Common.{◌≡◌, drop, map}
use Rattle.jd_model.specs.Sequents.{sequent_view}
use Rattle.jd_schema_instances.specs.Choosing.{instance_by}
use Rattle.jd_schema_trees.specs.TacletViews.{inst_var}
use Rattle.jd_sequent.specs.Obligations.{task_view}
use Rattle.jd_taclet_stages.specs.Stages.{all_new}
use Rattle.jd_taclet_matching.proofs.fresh.are_new.Given as goal

abbrev pub invariant-loop-v : goal.invariant-loop-v
invariant-loop-v l =
    all_new (task_view l.task) (sequent_view l.sequent) (instance_by l.by) (map (inst_var l.row.conds.items) (drop l.v-index l.row.insts.items))
    ≡ all_new (task_view l.task) (sequent_view l.sequent) (instance_by l.by) (map (inst_var l.row.conds.items) l.row.insts.items)
