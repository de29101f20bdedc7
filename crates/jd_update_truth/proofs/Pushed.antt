-- A pushed formula has the truth of the formula in a state where each variable is what it is replaced by.
use Rattle.std.proofs.Common.{◌≡◌, ℕ, true, List, [], ◌∷◌, refl, ap, ◌∙◌, int_lt, int_le}
use Rattle.jd_term.specs.Formulas.{Pairs, PlainFormula, TrueFormula, FalseFormula, Not, And, Or, Implies, Iff, Equal, Less, LessOrEqual, Forall, Exists, Updated, Modal, InLocations, InInt, WellFormed, Invariant, IsInstance, IsExactInstance}
use Rattle.jd_term.specs.Occurs.{occurs_var_in, occurs_const_in}
use Rattle.jd_heap.specs.Heaps.{Heap}
use Rattle.jd_heap.specs.References.{Reference, location}
use Rattle.jd_heap.specs.Values.{Value, as_int, as_ref, as_heap, as_field, at_sort, IsOf}
use Rattle.jd_update.specs.Replace.{inner}
use Rattle.jd_update.specs.Push.{joined, kept, under, push, live}
use Rattle.jd_model.specs.States.{State}
use Rattle.jd_model.specs.Programs.{is_instance, is_exactly}
use Rattle.jd_model.specs.TermValues.{updated}
use Rattle.jd_model.specs.Truth.{Setting, truth, EitherOf, IsWf}
use Rattle.jd_model.specs.WellFormedHeaps.{in_int}
use Rattle.jd_model.proofs.Coincidence.{Agree, truth_agree}
use Rattle.jd_model.proofs.Occurrences.{formula_in}
use Rattle.jd_model.proofs.Writes.{read_back}
use Rattle.jd_update_truth.specs.SortedFormulas.{AreSorted, SortedFormula}
use Rattle.jd_update_truth.proofs.Replacements.{Holds, holds_inner, replace_value, replace_within, joined_holds}
use Rattle.jd_update_truth.proofs.KeptPairs.{kept_reads, live_agree}

module _ (g : Setting) (d : ℕ) (inv : Heap → Reference → Type 0) (i : State) where
  -- states that agree at the variables of the formula give it one truth
  same_there : (a : PlainFormula) (b : List Value) (s t : State) → Agree (λ x. occurs_var_in x a ≡ true) s t → truth g d inv i s b a ≡ truth g d inv i t b a
  same_there a b s t h = truth_agree g d inv (λ x. occurs_var_in x a ≡ true) (λ x. occurs_const_in x a ≡ true) i i (λ x o. refl) a (formula_in _ _ a (λ x e. e) (λ x e. e)) b s t h

  under_truth : (u : Pairs) (a : PlainFormula) (s : State) (b : List Value) → truth g d inv i s b (under u a) ≡ truth g d inv i (updated i s b u s) b a
  under_truth [] a s b = refl
  under_truth (p ∷ u) a s b = refl

  pub push_truth : (a : PlainFormula) → SortedFormula a → (s t : State) (b : List Value) (q : Pairs) → Holds i s t b q → truth g d inv i s b (push q a) ≡ truth g d inv i t b a
  push_truth TrueFormula o s t b q h = refl
  push_truth FalseFormula o s t b q h = refl
  push_truth (Not a) o s t b q h = λ e. ¬ (push_truth a o s t b q h e)
  push_truth (And a c) o s t b q h = λ e. push_truth a o.0 s t b q h e × push_truth c o.1 s t b q h e
  push_truth (Or a c) o s t b q h = λ e. EitherOf (push_truth a o.0 s t b q h e) (push_truth c o.1 s t b q h e)
  push_truth (Implies a c) o s t b q h = λ e. push_truth a o.0 s t b q h e → push_truth c o.1 s t b q h e
  push_truth (Iff a c) o s t b q h = λ e. (push_truth a o.0 s t b q h e → push_truth c o.1 s t b q h e) × (push_truth c o.1 s t b q h e → push_truth a o.0 s t b q h e)
  push_truth (Equal x y) o s t b q h = λ e. replace_value i s t x b q h e ≡ replace_value i s t y b q h e
  push_truth (Less x y) o s t b q h = λ e. int_lt (as_int (replace_value i s t x b q h e)) (as_int (replace_value i s t y b q h e)) ≡ true
  push_truth (LessOrEqual x y) o s t b q h = λ e. int_le (as_int (replace_value i s t x b q h e)) (as_int (replace_value i s t y b q h e)) ≡ true
  push_truth (Forall k a) o s t b q h = λ e. (v : Value) → IsOf k v → push_truth a o s t (v ∷ b) (inner q) (holds_inner i s t b q v h) e
  push_truth (Exists k a) o s t b q h = λ e. ¬ ((v : Value) → IsOf k v → ¬ (push_truth a o s t (v ∷ b) (inner q) (holds_inner i s t b q v h) e))
  push_truth (Updated u a) o s t b q h = push_truth a o.1 s (updated i t b u t) b (joined q u q) (joined_holds i s t b q h u o.0 q t h)
  push_truth (Modal m c a) o s t b q h =
      under_truth (kept q c a) (Modal m c a) s b
      ∙ same_there (Modal m c a) b (updated i s b (kept q c a) s) t (λ x n. kept_reads i s b q c a x n ∙ ap (at_sort x.sort) (h x) ∙ read_back t x)
  push_truth (InLocations r f l) o s t b q h = λ e. replace_within i s t l b q h (location (as_ref (replace_value i s t r b q h e)) (as_field (replace_value i s t f b q h e))) e ≡ true
  push_truth (InInt x) o s t b q h = ap (λ v. in_int (as_int v) ≡ true) (replace_value i s t x b q h)
  push_truth (WellFormed x) o s t b q h = ap (λ v. IsWf g v) (replace_value i s t x b q h)
  push_truth (Invariant x r) o s t b q h = λ e. inv (as_heap (replace_value i s t x b q h e)) (as_ref (replace_value i s t r b q h e))
  push_truth (IsInstance k r) o s t b q h = ap (λ v. is_instance g.program k (as_ref v) ≡ true) (replace_value i s t r b q h)
  push_truth (IsExactInstance k r) o s t b q h = ap (λ v. is_exactly k (as_ref v) ≡ true) (replace_value i s t r b q h)

  -- the update itself
  pub update_truth : (u : Pairs) → AreSorted u → (a : PlainFormula) → SortedFormula a → (s : State) (b : List Value) → truth g d inv i s b (push (joined [] u []) a) ≡ truth g d inv i s b (Updated u a)
  update_truth u o a w s b = push_truth a w s (updated i s b u s) b (joined [] u []) (joined_holds i s s b [] (λ x. refl) u o [] s (λ x. refl))

  pub live_truth : (u : Pairs) (a : PlainFormula) (s : State) (b : List Value) → truth g d inv i s b (Updated (live a u) a) ≡ truth g d inv i s b (Updated u a)
  live_truth u a s b = same_there a b (updated i s b (live a u) s) (updated i s b u s) (live_agree i s b a u s s (λ x o. refl))
