-- Forms with two parts, with a term below one of them.
use Rattle.std.proofs.Common.{List, ap, cond, nat_eq, refl, subst, sym, ◌∙◌, ◌∷◌, ◌≡◌, ℕ}
use Rattle.std.specs.declared.result.Result.{Result}
use Rattle.jd_base.specs.declared.memory.NoMemory.{NoMemory}
use Rattle.jd_taclet_steps.specs.PutTerms.{put_below, put_term}
use Rattle.jd_term.specs.Formulas.{And, Equal, Implies, Less, LessOrEqual, Or, PlainFormula}
use Rattle.jd_term.specs.Makers.{GivesFormula, with_formulas, with_terms}
use Rattle.jd_term.specs.Terms.{PlainTerm}
use Rattle.jd_term.specs.declared.formula.Formula.{Formula}

module _ (k : ℕ) (ks : List ℕ) (new : PlainTerm) where
  abbrev with_term : ℕ → PlainTerm → PlainTerm
  with_term n x = cond (nat_eq k n) (put_term ks new x) x

  abbrev with_formula : ℕ → PlainFormula → PlainFormula
  with_formula n x = cond (nat_eq k n) (put_below ks new x) x

  two_terms : (f : PlainFormula) (x y : PlainTerm) → put_below (k ∷ ks) new (with_terms f x y) ≡ with_terms f (with_term 1 x) (with_term 2 y)
  two_terms (Equal s t) x y = refl
  two_terms (Less s t) x y = refl
  two_terms (LessOrEqual s t) x y = refl
  two_terms f x y = refl

  two_formulas : (f x y : PlainFormula) → put_below (k ∷ ks) new (with_formulas f x y) ≡ with_formulas f (with_formula 1 x) (with_formula 2 y)
  two_formulas (And s t) x y = refl
  two_formulas (Or s t) x y = refl
  two_formulas (Implies s t) x y = refl
  two_formulas f x y = refl

pub terms_put : (r : Result Formula NoMemory) (k : ℕ) (ks : List ℕ) (new : PlainTerm) (f : PlainFormula) (x y : PlainTerm) → f ≡ with_terms f x y → GivesFormula r (with_terms f (cond (nat_eq k 1) (put_term ks new x) x) (cond (nat_eq k 2) (put_term ks new y) y)) → GivesFormula r (put_below (k ∷ ks) new f)
terms_put r k ks new f x y told made = subst (λ h. GivesFormula r h) (sym (ap (put_below (k ∷ ks) new) told ∙ two_terms k ks new f x y)) made

-- the parts are lent, so they come as others that are equal
pub formulas_put : (r : Result Formula NoMemory) (k : ℕ) (ks : List ℕ) (new : PlainTerm) (f x y v w : PlainFormula) → v ≡ x → w ≡ y → f ≡ with_formulas f x y → GivesFormula r (with_formulas f (cond (nat_eq k 1) (put_below ks new v) v) (cond (nat_eq k 2) (put_below ks new w) w)) → GivesFormula r (put_below (k ∷ ks) new f)
formulas_put r k ks new f x y v w first second told made =
    let here = subst (λ z. GivesFormula r (with_formulas f (with_formula k ks new 1 z) (with_formula k ks new 2 w))) first made in
    let both = subst (λ z. GivesFormula r (with_formulas f (with_formula k ks new 1 x) (with_formula k ks new 2 z))) second here in
    subst (λ h. GivesFormula r h) (sym (ap (put_below (k ∷ ks) new) told ∙ two_formulas k ks new f x y)) both
