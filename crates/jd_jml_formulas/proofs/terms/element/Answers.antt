use Rattle.jd_term.specs.Terms as terms
use Rattle.jd_jml_formulas.proofs.terms.element.Goals as goal

pub returns : goal.returns
returns g c = λ x y h k. c.select.ensures _ x (terms.ElementField y) c.heap.ensures h (c.one_part-field.ensures y k)
