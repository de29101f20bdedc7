use Rattle.std.proofs.Common.{subst, sym}
use Rattle.jd_sized_makers.specs.Made.{IsFormula}
use Rattle.jd_jml_formulas.specs.Meant.{of_values}
use Rattle.jd_jml_formulas.proofs.operators.of_values.Goals as goal

pub returns-in-NotEqual : goal.returns-in-NotEqual
returns-in-NotEqual c = λ x y h k. subst (λ o. IsFormula c.not.result (of_values o x y)) (sym c.in-NotEqual.is) (c.not.ensures _ (c.compared.ensures x y h k))
