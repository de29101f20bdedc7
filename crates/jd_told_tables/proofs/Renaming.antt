-- What formulas of two formulas are with names replaced.
use Rattle.std.proofs.Common.{ap, refl, subst, sym, ◌≡◌, ◌∙◌}
use Rattle.std.specs.declared.result.Result.{Result}
use Rattle.jd_base.specs.declared.memory.NoMemory.{NoMemory}
use Rattle.jd_term.specs.Formulas.{And, Implies, Or, PlainFormula}
use Rattle.jd_term.specs.Makers.{GivesFormula, with_formulas}
use Rattle.jd_term.specs.Renamings.{Renaming, rename}
use Rattle.jd_term.specs.declared.formula.Formula.{Formula}

renamed_parts : (r : Renaming) (f x y : PlainFormula) → rename r (with_formulas f x y) ≡ with_formulas f (rename r x) (rename r y)
renamed_parts r (And s t) x y = refl
renamed_parts r (Or s t) x y = refl
renamed_parts r (Implies s t) x y = refl
renamed_parts r f x y = refl

pub formulas_renamed : (r : Renaming) (made p q : Result Formula NoMemory) (f x y : PlainFormula) → f ≡ with_formulas f x y → ((s t : PlainFormula) → GivesFormula p s → GivesFormula q t → GivesFormula made (with_formulas f s t)) → GivesFormula p (rename r x) → GivesFormula q (rename r y) → GivesFormula made (rename r f)
formulas_renamed r made p q f x y told makes first second =
    subst (λ (h : PlainFormula). GivesFormula made h) (sym (ap (rename r) told ∙ renamed_parts r f x y)) (makes _ _ first second)
