use Rattle.jd_term.specs.Terms as terms
use Rattle.jd_jml_formulas.proofs.terms.bound_term.Goals as goal

pub returns-else-inside-lt4294967295 : goal.returns-else-inside-lt4294967295
returns-else-inside-lt4294967295 c = λ k h. c.leaf.ensures (terms.Bound k c.args.sort) tt tt
