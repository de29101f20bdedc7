use Rattle.std.proofs.Common.{◌≡◌, List, take}
use Rattle.jd_syntax.specs.JavaTrees.{JavaUnit}
use Rattle.jd_jclasses.specs.Classes.{parents}
use Rattle.jd_classes.specs.Tables.{AreTables}
use Rattle.jd_declared.proofs.building.parents_of.Given as goal

-- what the classes before this one extend
abbrev pub invariant-loop-class : goal.invariant-loop-class
invariant-loop-class l = (units : List JavaUnit) → AreTables units l.classes → l.extended.items ≡ take l.class (parents units)
