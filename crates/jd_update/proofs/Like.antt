-- Formulas of the form of another with parts that were changed alike.
use Rattle.std.proofs.Common.{◌≡◌, refl, sym, ap, subst, ◌∙◌}
use Rattle.std.specs.declared.result.Result.{Result}
use Rattle.jd_base.specs.declared.memory.NoMemory.{NoMemory}
use Rattle.jd_term.specs.declared.formula.Formula.{Formula}
use Rattle.jd_term.specs.declared.term.Term.{Term}
use Rattle.jd_term.specs.Makers.{GivesFormula, GivesTerm, with_formulas, with_terms}
use Rattle.jd_term.specs.Formulas.{Pairs, PlainFormula, And, Or, Implies, Iff, Equal, Less, LessOrEqual}
use Rattle.jd_term.specs.Terms.{PlainTerm}
use Rattle.jd_update.specs.Push.{push}
use Rattle.jd_update.specs.Replace.{replace}

formulas_pushed : (o : Pairs) (f x y : PlainFormula) → push o (with_formulas f x y) ≡ with_formulas f (push o x) (push o y)
formulas_pushed o (And s t) x y = refl
formulas_pushed o (Or s t) x y = refl
formulas_pushed o (Implies s t) x y = refl
formulas_pushed o f x y = refl

pub formulas_like : (o : Pairs) (r p q : Result Formula NoMemory) (f x y x' y' : PlainFormula) → f ≡ with_formulas f x y → x' ≡ x → y' ≡ y → ((s t : PlainFormula) → GivesFormula p s → GivesFormula q t → GivesFormula r (with_formulas f s t)) → GivesFormula p (push o x') → GivesFormula q (push o y') → GivesFormula r (push o f)
formulas_like o r p q f x y x' y' told ex ey makes first second =
    subst (λ h. GivesFormula r h) (sym (ap (push o) told ∙ formulas_pushed o f x y)) (makes _ _ (subst (λ h. GivesFormula p (push o h)) ex first) (subst (λ h. GivesFormula q (push o h)) ey second))

terms_pushed : (o : Pairs) (f : PlainFormula) (x y : PlainTerm) → push o (with_terms f x y) ≡ with_terms f (replace o x) (replace o y)
terms_pushed o (Equal s t) x y = refl
terms_pushed o (Less s t) x y = refl
terms_pushed o (LessOrEqual s t) x y = refl
terms_pushed o f x y = refl

pub terms_like : (o : Pairs) (r : Result Formula NoMemory) (p q : Result Term NoMemory) (f : PlainFormula) (x y : PlainTerm) → f ≡ with_terms f x y → ((s t : PlainTerm) → GivesTerm p s → GivesTerm q t → GivesFormula r (with_terms f s t)) → GivesTerm p (replace o x) → GivesTerm q (replace o y) → GivesFormula r (push o f)
terms_like o r p q f x y told makes first second =
    subst (λ h. GivesFormula r h) (sym (ap (push o) told ∙ terms_pushed o f x y)) (makes _ _ first second)
