use Rattle.jd_jml_formulas.proofs.operators.is_true.Goals as goal

pub returns : goal.returns
returns c = λ x h. c.compared.ensures x _ h c.boolean.ensures
