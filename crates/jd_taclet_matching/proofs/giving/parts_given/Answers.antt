use Rattle.std.proofs.Common.{map}
use Rattle.jd_schema_instances.specs.Choosing.{instance_by, program_by}
use Rattle.jd_schema_trees.specs.TacletViews.{taclet}
use Rattle.jd_sequent.specs.Obligations.{task_view}
use Rattle.jd_tparse.specs.Names.{table_of}
use Rattle.jd_taclet_matching.proofs.WholeGiven.{given_whole}
use Rattle.jd_taclet_matching.specs.Given.{inst_view}
use Rattle.jd_taclet_matching.proofs.giving.parts_given.Goals as goal

pub returns : goal.returns
returns c =
    given_whole (task_view c.args.task.now) (taclet c.args.row.now).insts (map inst_view c.args.insts.now) (instance_by c.args.by.now) (program_by c.args.by.now) (table_of c.of-names.result) c.entries_for.result c.all_named.result c.are_as_many.result
    c.all_named.ensures c.if-not-all_named.false c.are_as_many.ensures c.if-not-are_as_many.false c.of-names.ensures c.entries_for.ensures
