use Rattle.jd_jml_formulas.proofs.operators.bound_instance.Goals as goal

pub returns : goal.returns
returns c = λ h is_h. c.connected.ensures _ _ (c.instance-fits.ensures _ c.bound_variable.ensures) (c.created-there.ensures h _ is_h c.bound_variable-2.ensures)
