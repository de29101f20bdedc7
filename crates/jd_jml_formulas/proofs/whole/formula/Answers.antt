use Rattle.jd_jml_formulas.proofs.whole.formula.Goals as goal

pub returns-clause-made : goal.returns-clause-made
returns-clause-made g c = λ p h. c.within.ensures.made _ (c.formula_of.ensures p h)

pub returns-clause-fits : goal.returns-clause-fits
returns-clause-fits g c = λ p h. c.within.ensures.fits _ (c.formula_of.ensures p h)

pub returns-clause-why : goal.returns-clause-why
returns-clause-why g c = λ p h. c.within.ensures.why _ (c.formula_of.ensures p h)
