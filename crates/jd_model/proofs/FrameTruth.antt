-- The formula that says that a heap differs from an older one only within locations.
use Rattle.std.proofs.Common.{◌≡◌, ℕ, true, false, List, [], ◌∷◌, sym, ap, ◌∙◌, subst, true≢false, suc, ◌+◌, arith}
use mathlib.Core.HLevel.{Stable}
use Rattle.jd_base.specs.declared.sort.Sort.TheVariants.{Int as IntSort, Bool as BoolSort, Ref as RefSort}
use Rattle.jd_heap.specs.Heaps.{Heap, is_created, SameAt}
use Rattle.jd_heap.specs.References.{Reference, Field, location}
use Rattle.jd_heap.specs.Values.{Value, BoolValue, RefValue, FieldValue, as_int, as_bool, as_ref, as_heap}
use Rattle.jd_model.proofs.Stable.{stable_int, stable_bool, stable_reference}
use Rattle.jd_model.proofs.Substitution.{shift_value, shift_within, ReachesTo}
use Rattle.jd_model.specs.Conjunctions.{same_select, frame}
use Rattle.jd_model.specs.States.{State, heap_of}
use Rattle.jd_model.specs.TermValues.{value, within, bound_at}
use Rattle.jd_model.specs.Truth.{Setting, truth}
use Rattle.jd_term.specs.Formulas.{And}
use Rattle.jd_term.specs.Shifts.{term_shift, loc_shift}
use Rattle.jd_term.specs.Terms.{PlainTerm, PlainLoc}

module _ (g : Setting) (d : ℕ) (inv : Heap → Reference → Type 0) (i s : State) (b : List Value) (l : PlainLoc) (old : PlainTerm) where
  two : (v w : Value) → ReachesTo (v ∷ w ∷ b) 2 b
  two v w j k = let e : 2 + j ≡ suc (suc j) = omega arith in ap (λ n. bound_at (v ∷ w ∷ b) n k) e

  pub frame_truth : truth g d inv i s b (frame l old) → (o : Reference) (f : Field) → within i s b l (location o f) ≡ false → is_created (as_heap (value i s b old)) o ≡ true → SameAt (heap_of s) (as_heap (value i s b old)) o f
  frame_truth h o f out made = subst (λ v. SameAt (heap_of s) (as_heap v) o f) same_old (
    denied (stable_int _ _) (λ p. ap as_int p.0),
    denied (stable_bool _ _) (λ p. ap as_bool p.1.0),
    denied (stable_reference _ _) (λ p. ap as_ref p.1.1),
  )
    where
      b2 : List Value
      b2 = FieldValue f ∷ RefValue o ∷ b

      same_old : value i s b2 (term_shift 0 2 old) ≡ value i s b old
      same_old = shift_value i s b2 b 2 (two (FieldValue f) (RefValue o)) old []

      outside : within i s b2 (loc_shift 0 2 l) (location o f) ≡ false
      outside = shift_within i s b2 b 2 (two (FieldValue f) (RefValue o)) l [] (location o f) ∙ out

      -- from a denial of the whole, each stable part
      denied : {X : Type 0} → Stable X → (truth g d inv i s b2 (And (same_select IntSort old) (And (same_select BoolSort old) (same_select RefSort old))) → X) → X
      denied st k = st (λ no. h (RefValue o) tt (FieldValue f) tt (
        λ inside. true≢false (sym inside ∙ outside),
        λ e. e (λ n. n (ap BoolValue (ap (λ v. is_created (as_heap v) o) same_old ∙ made)), λ c. no (k c)),
      ))
