use Rattle.std.proofs.Common.{refl, sym, ap, ◌∙◌}
use Rattle.jd_syntax.specs.declared.java.InfixOperator.TheVariants as operators
use Rattle.jd_syntax.specs.SpecTrees.{Infix, spec_view}
use Rattle.jd_first_form.specs.Conditions.{comparisons, left_of}
use Rattle.jd_first_form.proofs.Counts.{none_left, some_left}
use Rattle.jd_first_form.proofs.Viewed.{is_infix}
use Rattle.jd_first_form.proofs.conditions.+behind.Goals as goal

pub returns-in-None : goal.returns-in-None
returns-in-None t c =
    none_left c.args.limit (comparisons (spec_view c.deref-in-AndAlso.result.now)) (comparisons (spec_view c.in-Infix.b.value)) (sym c.in-None.is ∙ c.behind-in-AndAlso.ensures)
    ∙ sym (ap (λ x. left_of c.args.limit (comparisons x)) (is_infix c.args.e.now c.in-Infix.o _ _ _ _ c.in-Infix.is c.deref-in-AndAlso.ensures refl ∙ ap (λ o. Infix c.args.e.now.at o (spec_view c.deref-in-AndAlso.result.now) (spec_view c.in-Infix.b.value)) c.in-AndAlso.is))

pub returns-in-Some : goal.returns-in-Some
returns-in-Some t c =
    c.behind-in-Some.ensures
    ∙ some_left c.args.limit c.in-Some.left (comparisons (spec_view c.deref-in-AndAlso.result.now)) (comparisons (spec_view c.deref-in-Some.result.now)) (sym c.in-Some.is ∙ c.behind-in-AndAlso.ensures)
    ∙ sym (ap (λ x. left_of c.args.limit (comparisons x)) (is_infix c.args.e.now c.in-Infix.o _ _ _ _ c.in-Infix.is c.deref-in-AndAlso.ensures c.deref-in-Some.ensures ∙ ap (λ o. Infix c.args.e.now.at o (spec_view c.deref-in-AndAlso.result.now) (spec_view c.deref-in-Some.result.now)) c.in-AndAlso.is))
