-- What a tree's form with mapped parts is.
use Rattle.std.proofs.Common.{ℕ, ◌≡◌, ◌⊎◌, ⊎_elim, refl, sym, ap, subst, ◌∙◌}
use Rattle.std.specs.Global.{Box}
use Rattle.std.specs.declared.result.Result.{Result}
use Rattle.jd_base.specs.declared.memory.NoMemory.{NoMemory}
use Rattle.jd_term.specs.declared.formula.Formula.{Formula}
use Rattle.jd_term.specs.Makers.{GivesBoxedFormula, GivesFormula, with_formulas, with_terms}
use Rattle.jd_term.specs.Formulas.{PlainFormula, And, Or, Implies, Equal, Less, LessOrEqual, formula_view}
use Rattle.jd_term.specs.Maps.{LeafMap, map_formula, map_term}
use Rattle.jd_term.specs.Terms.{PlainTerm}

-- a formula of one of four forms has the parts that each form says
pub of_four : {f g h i j : Formula} (v : PlainFormula → PlainFormula) → (f ≡ g) ⊎ ((f ≡ h) ⊎ ((f ≡ i) ⊎ (f ≡ j))) → formula_view g ≡ v (formula_view g) → formula_view h ≡ v (formula_view h) → formula_view i ≡ v (formula_view i) → formula_view j ≡ v (formula_view j) → formula_view f ≡ v (formula_view f)
of_four v is p q r s =
    ⊎_elim (λ e. back v e p) (⊎_elim (λ e. back v e q) (⊎_elim (λ e. back v e r) (λ e. back v e s))) is
  where
    back : {f g : Formula} (v : PlainFormula → PlainFormula) → f ≡ g → formula_view g ≡ v (formula_view g) → formula_view f ≡ v (formula_view f)
    back v e p = subst (λ k. formula_view k ≡ v (formula_view k)) (sym e) p

terms_mapped : (m : LeafMap) (k : ℕ) (f : PlainFormula) (x y : PlainTerm) → map_formula m k (with_terms f x y) ≡ with_terms f (map_term m k x) (map_term m k y)
terms_mapped m k (Equal s t) x y = refl
terms_mapped m k (Less s t) x y = refl
terms_mapped m k (LessOrEqual s t) x y = refl
terms_mapped m k f x y = refl

pub terms_like : (m : LeafMap) (k : ℕ) (r : Result Formula NoMemory) (f : PlainFormula) (x y : PlainTerm) → f ≡ with_terms f x y → GivesFormula r (with_terms f (map_term m k x) (map_term m k y)) → GivesFormula r (map_formula m k f)
terms_like m k r f x y told made =
    subst (λ h. GivesFormula r h) (sym (ap (map_formula m k) told ∙ terms_mapped m k f x y)) made

formulas_mapped : (m : LeafMap) (k : ℕ) (f x y : PlainFormula) → map_formula m k (with_formulas f x y) ≡ with_formulas f (map_formula m k x) (map_formula m k y)
formulas_mapped m k (And s t) x y = refl
formulas_mapped m k (Or s t) x y = refl
formulas_mapped m k (Implies s t) x y = refl
formulas_mapped m k f x y = refl

pub formulas_like : (m : LeafMap) (k : ℕ) (r : Result Formula NoMemory) (p q : Result (Box Formula) NoMemory) (f x y : PlainFormula) → f ≡ with_formulas f x y → ((s t : PlainFormula) → GivesBoxedFormula p s → GivesBoxedFormula q t → GivesFormula r (with_formulas f s t)) → GivesBoxedFormula p (map_formula m k x) → GivesBoxedFormula q (map_formula m k y) → GivesFormula r (map_formula m k f)
formulas_like m k r p q f x y told makes first second =
    subst (λ h. GivesFormula r h) (sym (ap (map_formula m k) told ∙ formulas_mapped m k f x y)) (makes _ _ first second)
