use Rattle.std.proofs.Common.{map}
use Rattle.jd_jinfos.specs.Infos.{class_infos}
use Rattle.jd_jinfos.specs.Views.{class_info_view}
use Rattle.jd_jml_cases.specs.Trees.{tree_view}
use Rattle.jd_jml_cases.proofs.Written.{one_more_class}
use Rattle.jd_jml_cases.proofs.trees.method_trees.Goals as goal

pub loop-class-preserved : goal.loop-class-preserved
loop-class-preserved c = λ units tables.
    one_more_class (class_infos units) c.loop-class.class (class_info_view c.class.result.now) (map tree_view c.loop-class.trees.items) (map tree_view c.add_class.new.trees.items)
    (c.class.ensures units tables) (c.loop-class.invariant units tables) c.in_ok-add_class.ensures
