-- A shifted formula has the truth of the formula without the values that the shift passes over.
use Rattle.std.proofs.Common.{◌≡◌, ℕ, suc, ◌+◌, true, List, [], ◌∷◌, ◌++◌, length, refl, sym, ap, ◌∙◌, int_lt, int_le}
use Rattle.std.proofs.Math.Numerals.{suc-eq-add-one}
use Rattle.jd_term.specs.Formulas.{Pairs, PlainFormula, TrueFormula, FalseFormula, Not, And, Or, Implies, Iff, Equal, Less, LessOrEqual, Forall, Exists, Updated, Modal, InLocations, InInt, WellFormed, Invariant, IsInstance, IsExactInstance}
use Rattle.jd_term.specs.Shifts.{pairs_shift, formula_shift}
use Rattle.jd_term.specs.declared.formula.Modality.TheVariants as modalities
use Rattle.jd_heap.specs.References.{Reference, location}
use Rattle.jd_heap.specs.Heaps.{Heap}
use Rattle.jd_heap.specs.Values.{Value, as_int, as_ref, as_heap, as_field, IsOf}
use Rattle.jd_model.specs.States.{State, write}
use Rattle.jd_model.specs.Programs.{is_instance, is_exactly}
use Rattle.jd_model.specs.Runs.{exec_at}
use Rattle.jd_model.specs.TermValues.{updated}
use Rattle.jd_model.specs.WellFormedHeaps.{in_int}
use Rattle.jd_model.specs.Truth.{Setting, truth, IsWf, EitherOf}
use Rattle.jd_model.proofs.Substitution.{ReachesTo, shift_value, shift_within, if_ends_same, ends_in_same}

module _ (i s : State) (z y : List Value) (n : ℕ) (h : ReachesTo z n y) where
  shift_updated : (u : Pairs) (p : List Value) (t : State) → updated i s (p ++ z) (pairs_shift (length p) n u) t ≡ updated i s (p ++ y) u t
  shift_updated [] p t = refl
  shift_updated (e ∷ u) p t = shift_updated u p _ ∙ ap (λ v. updated i s (p ++ y) u (write t e.0 v)) (shift_value i s z y n h e.1 p)

module _ (g : Setting) (d : ℕ) (inv : Heap → Reference → Type 0) (i : State) (z y : List Value) (n : ℕ) (h : ReachesTo z n y) where
  raised_under : (a : PlainFormula) (p : List Value) (x : Value) (s : State) → truth g d inv i s (x ∷ (p ++ z)) (formula_shift (suc (length p)) n a) ≡ truth g d inv i s (x ∷ (p ++ y)) a → truth g d inv i s (x ∷ (p ++ z)) (formula_shift (length p + 1) n a) ≡ truth g d inv i s (x ∷ (p ++ y)) a
  raised_under a p x s e = ap (λ c. truth g d inv i s (x ∷ (p ++ z)) (formula_shift c n a)) (sym (suc-eq-add-one (length p))) ∙ e

  pub shift_truth : (a : PlainFormula) (p : List Value) (s : State) → truth g d inv i s (p ++ z) (formula_shift (length p) n a) ≡ truth g d inv i s (p ++ y) a
  shift_truth TrueFormula p s = refl
  shift_truth FalseFormula p s = refl
  shift_truth (Not a) p s = λ e. ¬ (shift_truth a p s e)
  shift_truth (And a c) p s = λ e. shift_truth a p s e × shift_truth c p s e
  shift_truth (Or a c) p s = λ e. EitherOf (shift_truth a p s e) (shift_truth c p s e)
  shift_truth (Implies a c) p s = λ e. shift_truth a p s e → shift_truth c p s e
  shift_truth (Iff a c) p s = λ e. (shift_truth a p s e → shift_truth c p s e) × (shift_truth c p s e → shift_truth a p s e)
  shift_truth (Equal a c) p s = λ e. shift_value i s z y n h a p e ≡ shift_value i s z y n h c p e
  shift_truth (Less a c) p s = λ e. int_lt (as_int (shift_value i s z y n h a p e)) (as_int (shift_value i s z y n h c p e)) ≡ true
  shift_truth (LessOrEqual a c) p s = λ e. int_le (as_int (shift_value i s z y n h a p e)) (as_int (shift_value i s z y n h c p e)) ≡ true
  shift_truth (Forall k a) p s = λ e. (x : Value) → IsOf k x → raised_under a p x s (shift_truth a (x ∷ p) s) e
  shift_truth (Exists k a) p s = λ e. ¬ ((x : Value) → IsOf k x → ¬ (raised_under a p x s (shift_truth a (x ∷ p) s) e))
  shift_truth (Updated u a) p s = shift_truth a p _ ∙ ap (λ t. truth g d inv i t (p ++ y) a) (shift_updated i s z y n h u p s)
  shift_truth (Modal modalities.Necessity c a) p s = λ e. (m : ℕ) → if_ends_same (exec_at g.program d m c s) (λ t. truth g d inv i t (p ++ z) (formula_shift (length p) n a)) (λ t. truth g d inv i t (p ++ y) a) (λ t. shift_truth a p t) e
  shift_truth (Modal modalities.Possibility c a) p s = λ e. ¬ ((k m : ℕ) → ¬ (ends_in_same (exec_at g.program k m c s) (λ t. truth g d inv i t (p ++ z) (formula_shift (length p) n a)) (λ t. truth g d inv i t (p ++ y) a) (λ t. shift_truth a p t) e))
  shift_truth (InLocations r f l) p s = λ e. shift_within i s z y n h l p (location (as_ref (shift_value i s z y n h r p e)) (as_field (shift_value i s z y n h f p e))) e ≡ true
  shift_truth (InInt a) p s = ap (λ x. in_int (as_int x) ≡ true) (shift_value i s z y n h a p)
  shift_truth (WellFormed a) p s = ap (λ x. IsWf g x) (shift_value i s z y n h a p)
  shift_truth (Invariant a r) p s = λ e. inv (as_heap (shift_value i s z y n h a p e)) (as_ref (shift_value i s z y n h r p e))
  shift_truth (IsInstance k r) p s = ap (λ x. is_instance g.program k (as_ref x) ≡ true) (shift_value i s z y n h r p)
  shift_truth (IsExactInstance k r) p s = ap (λ x. is_exactly k (as_ref x) ≡ true) (shift_value i s z y n h r p)
