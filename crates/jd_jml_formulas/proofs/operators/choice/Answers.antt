use Rattle.jd_jml_formulas.proofs.operators.choice.Goals as goal

pub returns : goal.returns
returns c = λ x y z is_x is_y is_z. let both = c.twice-one.ensures x is_x in c.connected.ensures _ _ (c.connected-first.ensures x y both.0 is_y) (c.connected-second.ensures _ z (c.not.ensures x both.1) is_z)
