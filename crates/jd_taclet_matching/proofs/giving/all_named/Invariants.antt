use Rattle.std.proofs.Common.{◌≡◌, drop, map}
use Rattle.jd_schema_trees.specs.TacletViews.{inst_var}
use Rattle.jd_taclet_stages.specs.Stages.{all_named}
use Rattle.jd_taclet_matching.specs.Given.{inst_view}
use Rattle.jd_taclet_matching.proofs.giving.all_named.Given as goal

abbrev pub invariant-loop-v : goal.invariant-loop-v
invariant-loop-v l = all_named (map (inst_var l.row.conds.items) (drop l.v-index l.row.insts.items)) (map inst_view l.insts) ≡ all_named (map (inst_var l.row.conds.items) l.row.insts.items) (map inst_view l.insts)
