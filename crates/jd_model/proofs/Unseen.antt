-- A formula without free indices does not see the bound list.
use Rattle.std.proofs.Common.{◌≡◌, ℕ, zero, suc, true, List, [], ◌∷◌, ◌++◌, length, refl, ap, ◌∙◌, neg_ℤ, int_lt, int_le, ◌&&◌, ◌||◌}
use Rattle.jd_base.specs.declared.sort.Sort.{Sort}
use Rattle.jd_heap.specs.Codings.{same}
use Rattle.jd_heap.specs.Heaps.{Heap, create, anon, length_of}
use Rattle.jd_heap.specs.ReferenceCodings.{location_coding, reference_coding}
use Rattle.jd_heap.specs.References.{Reference, Location, Index, location}
use Rattle.jd_heap.specs.Values.{Value, IntValue, HeapValue, FieldValue, as_int, as_ref, as_heap, as_field, IsOf, select_at, store_value}
use Rattle.jd_model.proofs.Substitution.{if_ends_same, ends_in_same}
use Rattle.jd_model.specs.Closed.{IsBelow, Below, BelowLoc, BelowUpdate, BelowIn}
use Rattle.jd_model.specs.Programs.{is_instance, is_exactly}
use Rattle.jd_model.specs.Runs.{wrap32, exec_at}
use Rattle.jd_model.specs.States.{State, write}
use Rattle.jd_model.specs.TermValues.{updated, value, within, bound_at, sum_range, arithmetic, is_index, in_range}
use Rattle.jd_model.specs.Truth.{Setting, truth, EitherOf, IsWf}
use Rattle.jd_model.specs.WellFormedHeaps.{in_int}
use Rattle.jd_term.specs.Formulas.{Pairs, PlainFormula, TrueFormula, FalseFormula, Not, And, Or, Implies, Iff, Equal, Less, LessOrEqual, Forall, Exists, Updated, Modal, InLocations, InInt, WellFormed, Invariant, IsInstance, IsExactInstance}
use Rattle.jd_term.specs.Terms.{PlainTerm, Number, Boolean, NullTerm, ProgramVariable, Constant, Bound, Arithmetic, Negation, Wrap, Length, Select, Sum, Store, Create, Anon, NamedField, CreatedField, ElementField, PlainLoc, NoLocations, AllLocations, Single, ObjectFields, ArrayElements, ElementRange, Union}
use Rattle.jd_term.specs.declared.formula.Modality.TheVariants as modalities

module _ (i s : State) where
  -- what lies behind the bound variables does not matter
  module _ (y z : List Value) where
    closed_at : (pre : List Value) (k : ℕ) (srt : Sort) → IsBelow k (length pre) → bound_at (pre ++ y) k srt ≡ bound_at (pre ++ z) k srt
    closed_at [] k srt o = absurd o
    closed_at (x ∷ pre) zero srt o = refl
    closed_at (x ∷ pre) (suc k) srt o = closed_at pre k srt o

    mutual
      pub closed_value : (a : PlainTerm) (pre : List Value) → Below (length pre) a → value i s (pre ++ y) a ≡ value i s (pre ++ z) a
      closed_value (Number x) p o = refl
      closed_value (Boolean x) p o = refl
      closed_value NullTerm p o = refl
      closed_value (ProgramVariable x) p o = refl
      closed_value (Constant c) p o = refl
      closed_value (Bound k srt) p o = closed_at p k srt o
      closed_value (Arithmetic op a c) p o = λ e. IntValue (arithmetic op (as_int (closed_value a p o.0 e)) (as_int (closed_value c p o.1 e)))
      closed_value (Negation a) p o = ap (λ v. IntValue (neg_ℤ (as_int v))) (closed_value a p o)
      closed_value (Wrap a) p o = ap (λ v. IntValue (wrap32 (as_int v))) (closed_value a p o)
      closed_value (Length a) p o = ap (λ v. IntValue (length_of (as_ref v))) (closed_value a p o)
      closed_value (Select srt a r f) p o = λ e. select_at srt (as_heap (closed_value a p o.0 e)) (as_ref (closed_value r p o.1 e)) (as_field (closed_value f p o.2 e))
      closed_value (Sum a c u) p o = λ e. IntValue (sum_range (as_int (closed_value a p o.0 e)) (as_int (closed_value c p o.1 e)) (λ x. as_int (closed_value u (IntValue x ∷ p) o.2 e)))
      closed_value (Store a r f c) p o = λ e. HeapValue (store_value (as_heap (closed_value a p o.0 e)) (as_ref (closed_value r p o.1 e)) (as_field (closed_value f p o.2 e)) (closed_value c p o.3 e))
      closed_value (Create a r) p o = λ e. HeapValue (create (as_heap (closed_value a p o.0 e)) (as_ref (closed_value r p o.1 e)))
      closed_value (Anon a l g) p o = λ e. HeapValue (anon (as_heap (closed_value a p o.0 e)) (λ q. closed_within l p o.1 q e) (as_heap (closed_value g p o.2 e)))
      closed_value (NamedField f) p o = refl
      closed_value CreatedField p o = refl
      closed_value (ElementField a) p o = ap (λ v. FieldValue (Index (as_int v))) (closed_value a p o)

      pub closed_within : (l : PlainLoc) (pre : List Value) → BelowLoc (length pre) l → (q : Location) → within i s (pre ++ y) l q ≡ within i s (pre ++ z) l q
      closed_within NoLocations p o q = refl
      closed_within AllLocations p o q = refl
      closed_within (Single r f) p o q = λ e. same location_coding q (location (as_ref (closed_value r p o.0 e)) (as_field (closed_value f p o.1 e)))
      closed_within (ObjectFields r) p o q = λ e. same reference_coding q.at (as_ref (closed_value r p o e))
      closed_within (ArrayElements r) p o q = λ e. same reference_coding q.at (as_ref (closed_value r p o e)) && is_index q.field
      closed_within (ElementRange r a c) p o q = λ e. same reference_coding q.at (as_ref (closed_value r p o.0 e)) && in_range (as_int (closed_value a p o.1 e)) (as_int (closed_value c p o.2 e)) q.field
      closed_within (Union l m) p o q = λ e. closed_within l p o.0 q e || closed_within m p o.1 q e

    pub closed_updated : (u : Pairs) (pre : List Value) → BelowUpdate (length pre) u → (t : State) → updated i s (pre ++ y) u t ≡ updated i s (pre ++ z) u t
    closed_updated [] p o t = refl
    closed_updated (e ∷ u) p o t = closed_updated u p o.1 _ ∙ ap (λ x. updated i s (p ++ z) u (write t e.0 x)) (closed_value e.1 p o.0)

module _ (g : Setting) (d : ℕ) (inv : Heap → Reference → Type 0) (i : State) (y z : List Value) where
  pub closed_truth : (a : PlainFormula) (p : List Value) → BelowIn (length p) a → (s : State) → truth g d inv i s (p ++ y) a ≡ truth g d inv i s (p ++ z) a
  closed_truth TrueFormula p o s = refl
  closed_truth FalseFormula p o s = refl
  closed_truth (Not a) p o s = λ e. ¬ (closed_truth a p o s e)
  closed_truth (And a c) p o s = λ e. closed_truth a p o.0 s e × closed_truth c p o.1 s e
  closed_truth (Or a c) p o s = λ e. EitherOf (closed_truth a p o.0 s e) (closed_truth c p o.1 s e)
  closed_truth (Implies a c) p o s = λ e. closed_truth a p o.0 s e → closed_truth c p o.1 s e
  closed_truth (Iff a c) p o s = λ e. (closed_truth a p o.0 s e → closed_truth c p o.1 s e) × (closed_truth c p o.1 s e → closed_truth a p o.0 s e)
  closed_truth (Equal a c) p o s = λ e. closed_value i s y z a p o.0 e ≡ closed_value i s y z c p o.1 e
  closed_truth (Less a c) p o s = λ e. int_lt (as_int (closed_value i s y z a p o.0 e)) (as_int (closed_value i s y z c p o.1 e)) ≡ true
  closed_truth (LessOrEqual a c) p o s = λ e. int_le (as_int (closed_value i s y z a p o.0 e)) (as_int (closed_value i s y z c p o.1 e)) ≡ true
  closed_truth (Forall k a) p o s = λ e. (x : Value) → IsOf k x → closed_truth a (x ∷ p) o s e
  closed_truth (Exists k a) p o s = λ e. ¬ ((x : Value) → IsOf k x → ¬ (closed_truth a (x ∷ p) o s e))
  closed_truth (Updated u a) p o s = closed_truth a p o.1 _ ∙ ap (λ t. truth g d inv i t (p ++ z) a) (closed_updated i s y z u p o.0 s)
  closed_truth (Modal modalities.Necessity c a) p o s = λ e. (n : ℕ) → if_ends_same (exec_at g.program d n c s) (λ t. truth g d inv i t (p ++ y) a) (λ t. truth g d inv i t (p ++ z) a) (λ t. closed_truth a p o t) e
  closed_truth (Modal modalities.Possibility c a) p o s = λ e. ¬ ((k n : ℕ) → ¬ (ends_in_same (exec_at g.program k n c s) (λ t. truth g d inv i t (p ++ y) a) (λ t. truth g d inv i t (p ++ z) a) (λ t. closed_truth a p o t) e))
  closed_truth (InLocations r f l) p o s = λ e. closed_within i s y z l p o.2 (location (as_ref (closed_value i s y z r p o.0 e)) (as_field (closed_value i s y z f p o.1 e))) e ≡ true
  closed_truth (InInt a) p o s = ap (λ x. in_int (as_int x) ≡ true) (closed_value i s y z a p o)
  closed_truth (WellFormed a) p o s = ap (λ x. IsWf g x) (closed_value i s y z a p o)
  closed_truth (Invariant a r) p o s = λ e. inv (as_heap (closed_value i s y z a p o.0 e)) (as_ref (closed_value i s y z r p o.1 e))
  closed_truth (IsInstance k r) p o s = ap (λ x. is_instance g.program k (as_ref x) ≡ true) (closed_value i s y z r p o)
  closed_truth (IsExactInstance k r) p o s = ap (λ x. is_exactly k (as_ref x) ≡ true) (closed_value i s y z r p o)
