use Rattle.std.proofs.Common.{◌≡◌, ℕ, List, take}
use Rattle.jd_syntax.specs.JavaTrees.{JavaUnit}
use Rattle.jd_jclasses.specs.Classes.{class_in, class_names}
use Rattle.jd_classes.specs.Tables.{AreTables}
use Rattle.jd_declared.specs.Named.{value_at}
use Rattle.jd_declared.proofs.building.class_numbers.Given as goal

-- the classes before this one have their numbers
abbrev pub invariant-loop-class : goal.invariant-loop-class
invariant-loop-class l = (units : List JavaUnit) → AreTables units l.classes → (q : List ℕ) → value_at l.numbers q ≡ class_in (take l.class (class_names units)) q
