use Rattle.std.proofs.Common.{◌≡◌, List, map, take}
use Rattle.jd_syntax.specs.JavaTrees.{JavaUnit}
use Rattle.jd_jinfos.specs.Infos.{method_infos}
use Rattle.jd_classes.specs.Tables.{AreTables}
use Rattle.jd_declared.specs.Named.{value_at}
use Rattle.jd_declared.specs.Owned.{signature_by}
use Rattle.jd_declared.specs.Told.{routine_view}
use Rattle.jd_declared.proofs.building.routines_of.Given as goal

-- the methods and constructors before this one are done
abbrev pub invariant-loop-method : goal.invariant-loop-method
invariant-loop-method l = (units : List JavaUnit) → AreTables units l.classes → map routine_view l.routines.items ≡ take l.method (map (signature_by (value_at l.numbers)) (method_infos units))
