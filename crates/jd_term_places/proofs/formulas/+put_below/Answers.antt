use Rattle.std.proofs.Common.{ap, refl}
use Rattle.jd_term.proofs.Mapped.{of_four}
use Rattle.jd_term.specs.Formulas.{formula_view}
use Rattle.jd_term.specs.Makers.{with_formulas, with_terms}
use Rattle.jd_term.specs.TermViews.{term_view}
use Rattle.jd_term_places.proofs.Forms.{formulas_put, terms_put}
use Rattle.jd_term_places.proofs.formulas.+put_below.Goals as goal

pub put_behind-returns-in-Equal : goal.put_behind-returns-in-Equal
put_behind-returns-in-Equal t c =
    terms_put _ c.args.k c.args.rest.now (term_view c.args.new.now) (formula_view c.args.old.now) _ _
    (of_four (λ f. with_terms f (term_view c.in-Equal.a) (term_view c.in-Equal.b)) c.in-Equal.is refl refl refl refl)
    (c.with_terms.ensures _ _ c.term_part-in-Equal.ensures c.term_part-in-Equal-2.ensures)

pub put_behind-returns-in-And : goal.put_behind-returns-in-And
put_behind-returns-in-And t c =
    formulas_put _ c.args.k c.args.rest.now (term_view c.args.new.now) (formula_view c.args.old.now) _ _ _ _ (ap formula_view c.deref-in-And.ensures) (ap formula_view c.deref-in-And-2.ensures)
    (of_four (λ f. with_formulas f (formula_view c.in-And.a.value) (formula_view c.in-And.b.value)) c.in-And.is refl refl refl refl)
    (c.with_formulas.ensures _ _ c.formula_part-in-And.ensures c.formula_part-in-And-2.ensures)
