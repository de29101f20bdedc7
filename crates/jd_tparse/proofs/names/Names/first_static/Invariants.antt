use Rattle.std.proofs.Common.{◌≡◌, List, map, drop}
use Rattle.std.specs.List.{find}
use Rattle.jd_syntax.specs.JavaTrees.{JavaUnit}
use Rattle.jd_jinfos.specs.Views.{method_number}
use Rattle.jd_classes.specs.Tables.{AreTables}
use Rattle.jd_tparse.specs.Called.{static_called}
use Rattle.jd_tparse.proofs.names.Names.first_static.Given as goal

-- none so far is static and has the name
abbrev pub invariant-loop-method : goal.invariant-loop-method
invariant-loop-method l = (units : List JavaUnit) → AreTables units l.self.classes.now → find (static_called units l.name) (map method_number (drop l.method-index l.own)) ≡ find (static_called units l.name) (map method_number l.own)
