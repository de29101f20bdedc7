use Rattle.std.proofs.Common.{◌≡◌, drop, map}
use Rattle.jd_schema_instances.specs.Choosing.{instance_by, program_by}
use Rattle.jd_schema_trees.specs.TacletViews.{inst_var}
use Rattle.jd_taclet_stages.specs.Stages.{given_for}
use Rattle.jd_tparse.specs.Names.{table_of}
use Rattle.jd_taclet_matching.specs.Given.{inst_view, with_more}
use Rattle.jd_taclet_matching.specs.OwnedParts.{owned_entries}
use Rattle.jd_taclet_matching.proofs.giving.add_entries.Given as goal

abbrev pub invariant-loop-v : goal.invariant-loop-v
invariant-loop-v l =
    with_more (owned_entries l.made) (given_for (table_of l.names) (program_by l.by) (instance_by l.by) (map (inst_var l.row.conds.items) (drop l.v-index l.row.insts.items)) (map inst_view l.insts))
    ≡ with_more (owned_entries l.fn.made) (given_for (table_of l.names) (program_by l.by) (instance_by l.by) (map (inst_var l.row.conds.items) l.row.insts.items) (map inst_view l.insts))
