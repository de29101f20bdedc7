use Rattle.std.proofs.Common.{refl}
use Rattle.jd_term.specs.Makers.{with_formulas, with_terms}
use Rattle.jd_term.specs.Formulas.{formula_view}
use Rattle.jd_term.specs.TermViews.{term_view}
use Rattle.jd_term.proofs.Mapped.{of_four, formulas_like, terms_like}
use Rattle.jd_term.proofs.mapping.+map_formula.Goals as goal

pub map_formula-returns-in-And : goal.map_formula-returns-in-And
map_formula-returns-in-And g t c =
    formulas_like (g.M.Leaves.leaves c.args.m.now) c.args.depth _ _ _ _ _ _ (of_four (λ f. with_formulas f (formula_view c.in-And.a.value) (formula_view c.in-And.b.value)) c.in-And.is refl refl refl refl) c.with_formulas.ensures c.map_boxed_formula-in-And.ensures c.map_boxed_formula-in-And-2.ensures

pub map_formula-returns-in-Equal : goal.map_formula-returns-in-Equal
map_formula-returns-in-Equal g t c =
    terms_like (g.M.Leaves.leaves c.args.m.now) c.args.depth _ _ _ _ (of_four (λ f. with_terms f (term_view c.in-Equal.a) (term_view c.in-Equal.b)) c.in-Equal.is refl refl refl refl) c.map_two_terms.ensures
