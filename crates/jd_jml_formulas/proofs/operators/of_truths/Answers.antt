use Rattle.std.proofs.Common.{subst, sym}
use Rattle.jd_sized_makers.specs.Made.{IsFormula}
use Rattle.jd_jml_formulas.specs.Meant.{of_truths}
use Rattle.jd_jml_formulas.proofs.operators.of_truths.Goals as goal

pub returns-in-NotEqual : goal.returns-in-NotEqual
returns-in-NotEqual c = λ x y h k. subst (λ o. IsFormula c.not.result (of_truths o x y)) (sym c.in-NotEqual.is) (c.not.ensures _ (c.connected-in-NotEqual.ensures x y h k))
