use Rattle.std.proofs.Common.{subst, sym}
use Rattle.jd_sized_makers.specs.Made.{IsFormula}
use Rattle.jd_jml_formulas.specs.Meant.{ranged}
use Rattle.jd_jml_formulas.proofs.operators.ranged.Goals as goal

pub returns-in-ForAll : goal.returns-in-ForAll
returns-in-ForAll c = λ x y h k. subst (λ q. IsFormula c.connected.result (ranged q x y)) (sym c.in-ForAll.is) (c.connected.ensures x y h k)

pub returns-in-Exists : goal.returns-in-Exists
returns-in-Exists c = λ x y h k. subst (λ q. IsFormula c.connected-in-Exists.result (ranged q x y)) (sym c.in-Exists.is) (c.connected-in-Exists.ensures x y h k)
