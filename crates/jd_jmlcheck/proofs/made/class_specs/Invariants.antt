use Rattle.std.proofs.Common.{◌≡◌, List, map, take}
use Rattle.jd_syntax.specs.JavaTrees.{JavaUnit}
use Rattle.jd_classes.specs.Tables.{AreTables}
use Rattle.jd_jinfos.specs.Infos.{class_infos}
use Rattle.jd_jmlcheck.specs.Specified.{class_spec}
use Rattle.jd_jmlcheck.specs.Views.{invariants_view}
use Rattle.jd_jmlcheck.proofs.made.class_specs.Given as goal

-- those of the classes before this one
abbrev pub invariant-loop-class : goal.invariant-loop-class
invariant-loop-class l = (units : List JavaUnit) → AreTables units l.classes → map invariants_view l.made.items ≡ take l.class (map class_spec (class_infos units))
