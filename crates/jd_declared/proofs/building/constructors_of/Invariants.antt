use Rattle.std.proofs.Common.{◌≡◌, List, map, take}
use Rattle.jd_syntax.specs.JavaTrees.{JavaUnit}
use Rattle.jd_jinfos.specs.Infos.{class_infos}
use Rattle.jd_classes.specs.Tables.{AreTables}
use Rattle.jd_declared.proofs.building.constructors_of.Given as goal

-- the constructors of the classes before this one
abbrev pub invariant-loop-class : goal.invariant-loop-class
invariant-loop-class l = (units : List JavaUnit) → AreTables units l.classes → l.constructors.items ≡ take l.class (map (λ i. i.own.constructor) (class_infos units))
