use Rattle.std.proofs.Common.{refl, subst}
use Rattle.jd_term.specs.Formulas.{formula_view}
use Rattle.jd_term.specs.Makers.{GivesFormula, with_formulas}
use Rattle.jd_term.specs.Renamings.{rename}
use Rattle.jd_term.specs.declared.formula.Formula.{Formula}
use Rattle.jd_term.proofs.Mapped.{of_four}
use Rattle.jd_told_tables.proofs.Renaming.{formulas_renamed}
use Rattle.jd_told_tables.specs.Places.{renaming_at}
use Rattle.jd_told_tables.proofs.renamed.+renamed.Goals as goal

pub returns-in-And : goal.returns-in-And
returns-in-And t c =
    formulas_renamed (renaming_at c.args.at.now) _ _ _ _ _ _ (of_four (λ f. with_formulas f (formula_view c.in-And.a.value) (formula_view c.in-And.b.value)) c.in-And.is refl refl refl refl) c.with_formulas.ensures
    (subst (λ (f : Formula). GivesFormula c.renamed.result (rename (renaming_at c.args.at.now) (formula_view f))) c.deref.ensures c.renamed.ensures)
    (subst (λ (f : Formula). GivesFormula c.renamed-in-And.result (rename (renaming_at c.args.at.now) (formula_view f))) c.deref-in-And.ensures c.renamed-in-And.ensures)
