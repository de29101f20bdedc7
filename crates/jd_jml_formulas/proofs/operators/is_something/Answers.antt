use Rattle.jd_jml_formulas.proofs.operators.is_something.Goals as goal

pub returns : goal.returns
returns c = λ x h. c.not.ensures _ (c.compared.ensures x _ h c.null.ensures)
