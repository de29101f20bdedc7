use Rattle.std.proofs.Common.{◌≡◌, ℕ, List, drop, map}
use Rattle.jd_syntax.specs.JavaTrees.{JavaUnit}
use Rattle.jd_jinfos.specs.Infos.{method_infos}
use Rattle.jd_jinfos.specs.Views.{method_number}
use Rattle.jd_classes.specs.Tables.{AreTables}
use Rattle.jd_declared.specs.Named.{first_named, then_named, value_at}
use Rattle.jd_declared.specs.Owned.{methods_in}
use Rattle.jd_declared.proofs.building.own_methods.Given as goal

-- those that are left come behind what is there by now
abbrev pub invariant-loop-method : goal.invariant-loop-method
invariant-loop-method l = (units : List JavaUnit) → AreTables units l.classes → (q : List ℕ)
    → first_named (methods_in (method_infos units) (map method_number l.methods)) q ≡ then_named (value_at l.own q) (methods_in (method_infos units) (map method_number (drop l.method-index l.methods))) q
