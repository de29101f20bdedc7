-- A formula put below the one of a number.
use Rattle.std.proofs.Common.{◌≡◌, ℕ, zero, suc, ◌+◌, ◌<◌, ◌≤◌, List, [], ◌∷◌, length, map, get_or, slice_set, Option, Some, None, refl, sym, ap, ◌∙◌, arith, add-one}
use Rattle.std.specs.Prelude.{option_and_then}
use Rattle.std.proofs.lemmas.Option.{slice_get_within}
use Rattle.jd_term.specs.declared.formula.Formula.{Formula}
use Rattle.jd_term.specs.Formulas.{PlainFormula, formula_view}
use Rattle.jd_model.specs.Places.{Part, FormulaPart, part_at, numbered, put_formula, put_in}

set_below : (fs : List Formula) (k : ℕ) (path : List ℕ) (new : PlainFormula) (f x : Formula) → f ≡ get_or fs k f → k < length fs → formula_view x ≡ put_formula path new (formula_view f) → map formula_view (slice_set fs k x) ≡ put_in (map formula_view fs) (suc k) path new
set_below [] k path new f x e lt c = absurd (omega arith)
set_below (g ∷ fs) zero path new f x e lt c = ap (λ a. a ∷ map formula_view fs) (c ∙ ap (λ (h : Formula). put_formula path new (formula_view h)) e)
set_below (g ∷ fs) (suc k) path new f x e lt c = ap (λ l. formula_view g ∷ l) (set_below fs k path new f x e (omega arith) c)

-- the changed formula in its place
pub changed_in_place : (fs : List Formula) (n k : ℕ) (path : List ℕ) (new : PlainFormula) (f x : Formula) → n ≡ k + 1 → f ≡ get_or fs k f → k < length fs → formula_view x ≡ put_formula path new (formula_view f) → map formula_view (slice_set fs k x) ≡ put_in (map formula_view fs) n path new
changed_in_place fs n k path new f x is e lt c = set_below fs k path new f x e lt c ∙ ap (λ j. put_in (map formula_view fs) j path new) (sym (add-one k) ∙ sym is)

numbered_within : (xs : List PlainFormula) (n : ℕ) (x : PlainFormula) → numbered xs n ≡ Some x → (0 < n) × (n ≤ length xs)
numbered_within xs zero x e = absurd (no e)
  where
    no : {y : PlainFormula} → None ≡ Some y → ⊥
    no h = cc
numbered_within xs (suc k) x e = let lt = slice_get_within xs k x e in (omega arith, omega arith)

-- where something stands below a number, the number is of the list
pub there_within : (xs : List PlainFormula) (n : ℕ) (path : List ℕ) (p : Part) → option_and_then (λ a. part_at path (FormulaPart a)) (numbered xs n) ≡ Some p → (0 < n) × (n ≤ length xs)
there_within xs n path p e = by (numbered xs n) refl e
  where
    no : {y : Part} → None ≡ Some y → ⊥
    no h = cc

    by : (o : Option PlainFormula) → numbered xs n ≡ o → option_and_then (λ a. part_at path (FormulaPart a)) o ≡ Some p → (0 < n) × (n ≤ length xs)
    by None is h = absurd (no h)
    by (Some a) is h = numbered_within xs n a is
