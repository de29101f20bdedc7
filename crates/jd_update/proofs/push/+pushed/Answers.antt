use Rattle.std.proofs.Common.{ap, map, refl}
use Rattle.jd_term.specs.Makers.{with_formulas, with_terms}
use Rattle.jd_term.specs.Formulas.{formula_view, pair_view}
use Rattle.jd_term.specs.TermViews.{term_view}
use Rattle.jd_term.proofs.Mapped.{of_four}
use Rattle.jd_update.proofs.Like.{formulas_like, terms_like}
use Rattle.jd_update.proofs.push.+pushed.Goals as goal

pub pushed-returns-in-And : goal.pushed-returns-in-And
pushed-returns-in-And t c =
    formulas_like (map pair_view c.args.q.now) _ _ _ _ _ _ _ _ (of_four (λ f. with_formulas f (formula_view c.in-And.a.value) (formula_view c.in-And.b.value)) c.in-And.is refl refl refl refl) (ap formula_view c.deref-in-And.ensures) (ap formula_view c.deref-in-And-2.ensures) c.with_formulas.ensures c.pushed-in-And.ensures c.pushed-in-And-2.ensures

pub pushed-returns-in-Equal : goal.pushed-returns-in-Equal
pushed-returns-in-Equal t c =
    terms_like (map pair_view c.args.q.now) _ _ _ _ _ _ (of_four (λ f. with_terms f (term_view c.in-Equal.a) (term_view c.in-Equal.b)) c.in-Equal.is refl refl refl refl) c.with_terms.ensures c.replace_term-in-Equal.ensures c.replace_term-in-Equal-2.ensures
