use Rattle.jd_jml_formulas.proofs.operators.created.Goals as goal

pub returns : goal.returns
returns c = λ h o is_h is_o. c.is_true.ensures _ (c.select.ensures h o _ is_h is_o c.created_field.ensures)
