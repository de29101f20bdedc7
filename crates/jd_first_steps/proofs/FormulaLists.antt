-- What is so of each formula of a list stays so where formulas are put in.
use Rattle.std.proofs.Common.{◌≡◌, ℕ, zero, suc, List, [], ◌∷◌, ◌++◌, Some}
use Rattle.std.specs.Prelude.{option_and_then, slice_get}
use Rattle.std.specs.Option.{IfSome}
use Rattle.jd_heap.specs.Values.{Value}
use Rattle.jd_term.specs.Formulas.{PlainFormula}
use Rattle.jd_model.specs.States.{State}
use Rattle.jd_model.specs.Truth.{Setting, Truth}
use Rattle.jd_model.specs.Places.{Part, FormulaPart, part_at, put_formula, put_in}
use Rattle.jd_model.specs.Validity.{AllTrue, AllFalse}
use Rattle.jd_update_truth.specs.SortedFormulas.{SortedFormula, AllSorted}
use Rattle.jd_first_steps.specs.Rows.{with_instead}

-- H says of a list that P is so of each of its formulas
pub record OfEach (P : PlainFormula → Type 0) (H : List PlainFormula → Type 0) : Type 0 where
  pub none : H []
  pub more : (a : PlainFormula) (l : List PlainFormula) → P a → H l → H (a ∷ l)
  pub first : (a : PlainFormula) (l : List PlainFormula) → H (a ∷ l) → P a
  pub others : (a : PlainFormula) (l : List PlainFormula) → H (a ∷ l) → H l

pub all_true : (g : Setting) (d : ℕ) (i s : State) (b : List Value) → OfEach (λ a. Truth g d i s b a) (AllTrue g d i s b)
all_true g d i s b = record { none = tt; more = λ a l h k. (h, k); first = λ a l h. h.0; others = λ a l h. h.1 }

pub all_false : (g : Setting) (d : ℕ) (i s : State) (b : List Value) → OfEach (λ a. ¬ (Truth g d i s b a)) (AllFalse g d i s b)
all_false g d i s b = record { none = tt; more = λ a l h k. (h, k); first = λ a l h. h.0; others = λ a l h. h.1 }

pub all_sorted : OfEach SortedFormula AllSorted
all_sorted = record { none = tt; more = λ a l h k. (h, k); first = λ a l h. h.0; others = λ a l h. h.1 }

module _ (P : PlainFormula → Type 0) (H : List PlainFormula → Type 0) (each : OfEach P H) where
  pub append_each : (l m : List PlainFormula) → H l → H m → H (l ++ m)
  append_each [] m h k = k
  append_each (a ∷ l) m h k = each.more a (l ++ m) (each.first a l h) (append_each l m (each.others a l h) k)

  pub instead_each : (l : List PlainFormula) (k : ℕ) (new : List PlainFormula) → H l → H new → H (with_instead l (suc k) new)
  instead_each [] k new h n = each.none
  instead_each (a ∷ l) zero new h n = append_each new l n (each.others a l h)
  instead_each (a ∷ l) (suc k) new h n = each.more a (with_instead l (suc k) new) (each.first a l h) (instead_each l k new (each.others a l h) n)

  pub numbered_each : (l : List PlainFormula) (k : ℕ) → H l → IfSome (slice_get l k) P
  numbered_each [] k h = tt
  numbered_each (a ∷ l) zero h = each.first a l h
  numbered_each (a ∷ l) (suc k) h = numbered_each l k (each.others a l h)

  module _ (path : List ℕ) where
    -- what a path reaches in one of the formulas
    pub reached_each : (Q : Part → Type 0) → ((a : PlainFormula) → P a → IfSome (part_at path (FormulaPart a)) Q) → (l : List PlainFormula) (k : ℕ) → H l → IfSome (option_and_then (λ a. part_at path (FormulaPart a)) (slice_get l k)) Q
    reached_each Q reach [] k h = tt
    reached_each Q reach (a ∷ l) zero h = reach a (each.first a l h)
    reached_each Q reach (a ∷ l) (suc k) h = reached_each Q reach l k (each.others a l h)

    module _ (find new : PlainFormula) where
      pub put_each : ((a : PlainFormula) → part_at path (FormulaPart a) ≡ Some (FormulaPart find) → P a → P (put_formula path new a)) → (l : List PlainFormula) (k : ℕ) → option_and_then (λ a. part_at path (FormulaPart a)) (slice_get l k) ≡ Some (FormulaPart find) → H l → H (put_in l (suc k) path new)
      put_each keeps [] k e h = each.none
      put_each keeps (a ∷ l) zero e h = each.more (put_formula path new a) l (keeps a e (each.first a l h)) (each.others a l h)
      put_each keeps (a ∷ l) (suc k) e h = each.more a (put_in l (suc k) path new) (each.first a l h) (put_each keeps l k e (each.others a l h))
