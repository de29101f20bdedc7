-- A formula of a list with another term below it.
use Rattle.std.proofs.Common.{List, [], ◌+◌, ◌<◌, ◌∙◌, ◌∷◌, ◌≡◌, add-one, ap, arith, get_or, length, map, slice_set, suc, sym, zero, ℕ}
use Rattle.jd_term.specs.declared.formula.Formula.{Formula}
use Rattle.jd_term.specs.Formulas.{formula_view}
use Rattle.jd_term.specs.Terms.{PlainTerm}
use Rattle.jd_taclet_steps.specs.PutTerms.{put_below, put_in_list}

set_below : (fs : List Formula) (k : ℕ) (path : List ℕ) (new : PlainTerm) (f x : Formula) → f ≡ get_or fs k f → k < length fs → formula_view x ≡ put_below path new (formula_view f) → map formula_view (slice_set fs k x) ≡ put_in_list (map formula_view fs) (suc k) path new
set_below [] k path new f x e lt c = absurd (omega arith)
set_below (g ∷ fs) zero path new f x e lt c = ap (λ a. a ∷ map formula_view fs) (c ∙ ap (λ (h : Formula). put_below path new (formula_view h)) e)
set_below (g ∷ fs) (suc k) path new f x e lt c = ap (λ l. formula_view g ∷ l) (set_below fs k path new f x e (omega arith) c)

-- the changed formula in its place
pub changed_in_place : (fs : List Formula) (n k : ℕ) (path : List ℕ) (new : PlainTerm) (f x : Formula) → n ≡ k + 1 → f ≡ get_or fs k f → k < length fs → formula_view x ≡ put_below path new (formula_view f) → map formula_view (slice_set fs k x) ≡ put_in_list (map formula_view fs) n path new
changed_in_place fs n k path new f x is e lt c = set_below fs k path new f x e lt c ∙ ap (λ j. put_in_list (map formula_view fs) j path new) (sym (add-one k) ∙ sym is)
