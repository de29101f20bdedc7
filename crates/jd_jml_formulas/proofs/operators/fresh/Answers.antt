use Rattle.jd_jml_formulas.proofs.operators.fresh.Goals as goal

pub returns : goal.returns
returns c = λ h x is_h is_x. let both = c.twice_term-one.ensures x is_x in c.connected.ensures _ _ (c.is_something.ensures x both.1) (c.not-new.ensures _ (c.created.ensures h x is_h both.0))
