use Rattle.std.proofs.Common.{◌≡◌, List, flat_map, map, take}
use Rattle.jd_syntax.specs.JavaTrees.{JavaUnit}
use Rattle.jd_classes.specs.Tables.{AreTables}
use Rattle.jd_jinfos.specs.Infos.{class_infos}
use Rattle.jd_jml_cases.specs.Trees.{methods_of_info, tree_view}
use Rattle.jd_jml_cases.proofs.trees.method_trees.Given as goal

-- those of the classes before this one
abbrev pub invariant-loop-class : goal.invariant-loop-class
invariant-loop-class l = (units : List JavaUnit) → AreTables units l.classes → map tree_view l.trees.items ≡ flat_map methods_of_info (take l.class (class_infos units))
