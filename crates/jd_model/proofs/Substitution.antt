-- A term in place of a bound variable: the value or truth is that with the term's value bound.
use Rattle.std.proofs.Common.{Bool, false, cond, subst, true≢false, ◌≡◌, ◌≢◌, ◌⊎◌, inl, inr, ℕ, zero, suc, ◌+◌, true, List, [], ◌∷◌, ◌++◌, length, refl, sym, ap, ◌∙◌, zero-add, add-zero, add-suc, suc-add, neg_ℤ, int_lt, int_le, ◌&&◌, ◌||◌}
use Rattle.std.proofs.Math.Numerals.{suc-eq-add-one}
use Rattle.jd_base.specs.declared.sort.Sort.{Sort}
use Rattle.jd_base.specs.declared.sort.Sort.TheVariants.{Int as IntSort, Bool as BoolSort, Ref as RefSort, Heap as HeapSort, Field as FieldSort}
use Rattle.jd_heap.specs.Codings.{same_decides, same}
use Rattle.jd_heap.specs.Heaps.{Heap, empty_heap, create, anon, length_of}
use Rattle.jd_heap.specs.ReferenceCodings.{location_coding, reference_coding}
use Rattle.jd_heap.specs.References.{Reference, Location, Index, location}
use Rattle.jd_heap.specs.Values.{Value, IntValue, BoolValue, RefValue, HeapValue, FieldValue, as_int, as_ref, as_heap, as_field, IsOf, select_at, store_value}
use Rattle.jd_model.proofs.Coincidence.{value_agree}
use Rattle.jd_model.proofs.Indices.{raised, raised_is, put_from, put_is}
use Rattle.jd_model.proofs.Sorts.{value_sort}
use Rattle.jd_model.specs.NameCodings.{sort_coding}
use Rattle.jd_model.specs.Outcomes.{Outcome, Normal, Broke, Returned, Thrown, Stopped, NoLength, NotEnded}
use Rattle.jd_model.specs.Programs.{is_instance, is_exactly}
use Rattle.jd_model.specs.Runs.{wrap32, exec_at}
use Rattle.jd_model.specs.States.{State, write}
use Rattle.jd_model.specs.Substitutions.{fitted, plain_term, subst_term, subst_loc, subst_pairs, subst_formula, NotBound, NotBoundLoc, NotBoundPairs, NotBoundIn, Outside, NoVariable, Steady}
use Rattle.jd_model.specs.TermValues.{taken, updated, value, within, bound_at, sum_range, arithmetic, is_index, in_range}
use Rattle.jd_model.specs.Truth.{Setting, truth, IfEnds, EndsIn, EitherOf, IsWf}
use Rattle.jd_model.specs.WellFormedHeaps.{in_int}
use Rattle.jd_term.specs.Formulas.{Pairs, PlainFormula, TrueFormula, FalseFormula, Not, And, Or, Implies, Iff, Equal, Less, LessOrEqual, Forall, Exists, Updated, Modal, InLocations, InInt, WellFormed, Invariant, IsInstance, IsExactInstance}
use Rattle.jd_term.specs.Shifts.{term_shift, loc_shift}
use Rattle.jd_term.specs.Terms.{PlainTerm, sort_of_term, Number, Boolean, NullTerm, ProgramVariable, Constant, Bound, Arithmetic, Negation, Wrap, Length, Select, Sum, Store, Create, Anon, NamedField, CreatedField, ElementField, PlainLoc, NoLocations, AllLocations, Single, ObjectFields, ArrayElements, ElementRange, Union}
use Rattle.jd_term.specs.declared.formula.Modality.TheVariants as modalities

-- from index n on, z is y
abbrev pub ReachesTo : List Value → ℕ → List Value → Type 0
ReachesTo z n y = (j : ℕ) (s : Sort) → bound_at z (n + j) s ≡ bound_at y j s

reaches_all : (y : List Value) → ReachesTo y 0 y
reaches_all y j s = ap (λ k. bound_at y k s) (zero-add j)

reaches_next : (z y : List Value) (x : Value) (n : ℕ) → ReachesTo z n (x ∷ y) → ReachesTo z (suc n) y
reaches_next z y x n h j s = ap (λ k. bound_at z k s) (suc-add n j ∙ sym (add-suc n j)) ∙ h (suc j) s

raised_at : (pre z y : List Value) (n : ℕ) → ReachesTo z n y → (k : ℕ) (s : Sort) → bound_at (pre ++ z) (raised n (length pre) k) s ≡ bound_at (pre ++ y) k s
raised_at [] z y n h k s = h k s
raised_at (x ∷ pre) z y n h zero s = refl
raised_at (x ∷ pre) z y n h (suc k) s = raised_at pre z y n h k s

abbrev is_heap_sort : Sort → Bool
is_heap_sort HeapSort = true
is_heap_sort k = false

bound_heap : (z : List Value) (k : ℕ) → bound_at z k HeapSort ≡ HeapValue empty_heap
bound_heap [] k = refl
bound_heap (v ∷ z) zero = refl
bound_heap (v ∷ z) (suc k) = bound_heap z k

taken_own : (k : Sort) (v : Value) → is_heap_sort k ≡ false → IsOf k v → taken k v ≡ v
taken_own IntSort (IntValue z) n o = refl
taken_own BoolSort (BoolValue z) n o = refl
taken_own RefSort (RefValue z) n o = refl
taken_own HeapSort v n o = absurd (true≢false n)
taken_own FieldSort (FieldValue z) n o = refl
taken_own k v n o = absurd o

taken_other : (k l : Sort) (v : Value) (i s : State) (z : List Value) → is_heap_sort k ≡ false → k ≢ l → IsOf l v → value i s z (plain_term k) ≡ taken k v
taken_other IntSort IntSort v i s z n d o = absurd (d refl)
taken_other BoolSort BoolSort v i s z n d o = absurd (d refl)
taken_other RefSort RefSort v i s z n d o = absurd (d refl)
taken_other FieldSort FieldSort v i s z n d o = absurd (d refl)
taken_other HeapSort l v i s z n d o = absurd (true≢false n)
taken_other IntSort BoolSort (BoolValue x) i s z n d o = refl
taken_other IntSort RefSort (RefValue x) i s z n d o = refl
taken_other IntSort HeapSort (HeapValue x) i s z n d o = refl
taken_other IntSort FieldSort (FieldValue x) i s z n d o = refl
taken_other BoolSort IntSort (IntValue x) i s z n d o = refl
taken_other BoolSort RefSort (RefValue x) i s z n d o = refl
taken_other BoolSort HeapSort (HeapValue x) i s z n d o = refl
taken_other BoolSort FieldSort (FieldValue x) i s z n d o = refl
taken_other RefSort IntSort (IntValue x) i s z n d o = refl
taken_other RefSort BoolSort (BoolValue x) i s z n d o = refl
taken_other RefSort HeapSort (HeapValue x) i s z n d o = refl
taken_other RefSort FieldSort (FieldValue x) i s z n d o = refl
taken_other FieldSort IntSort (IntValue x) i s z n d o = refl
taken_other FieldSort BoolSort (BoolValue x) i s z n d o = refl
taken_other FieldSort RefSort (RefValue x) i s z n d o = refl
taken_other FieldSort HeapSort (HeapValue x) i s z n d o = refl
taken_other k l v i s z n d o = absurd o

module _ (i s : State) where
  module _ (z y : List Value) (n : ℕ) (h : ReachesTo z n y) where
    shifted_under : (a : PlainTerm) (pre : List Value) (x : Value) → value i s (x ∷ (pre ++ z)) (term_shift (suc (length pre)) n a) ≡ value i s (x ∷ (pre ++ y)) a → value i s (x ∷ (pre ++ z)) (term_shift (length pre + 1) n a) ≡ value i s (x ∷ (pre ++ y)) a
    shifted_under a pre x e = ap (λ c. value i s (x ∷ (pre ++ z)) (term_shift c n a)) (sym (suc-eq-add-one (length pre))) ∙ e

    mutual
      pub shift_value : (a : PlainTerm) (pre : List Value) → value i s (pre ++ z) (term_shift (length pre) n a) ≡ value i s (pre ++ y) a
      shift_value (Number x) p = refl
      shift_value (Boolean x) p = refl
      shift_value NullTerm p = refl
      shift_value (ProgramVariable x) p = refl
      shift_value (Constant c) p = refl
      shift_value (Bound k srt) p = ap (λ j. bound_at (p ++ z) j srt) (sym (raised_is n (length p) k)) ∙ raised_at p z y n h k srt
      shift_value (Arithmetic op a c) p = λ e. IntValue (arithmetic op (as_int (shift_value a p e)) (as_int (shift_value c p e)))
      shift_value (Negation a) p = ap (λ v. IntValue (neg_ℤ (as_int v))) (shift_value a p)
      shift_value (Wrap a) p = ap (λ v. IntValue (wrap32 (as_int v))) (shift_value a p)
      shift_value (Length a) p = ap (λ v. IntValue (length_of (as_ref v))) (shift_value a p)
      shift_value (Select srt a r f) p = λ e. select_at srt (as_heap (shift_value a p e)) (as_ref (shift_value r p e)) (as_field (shift_value f p e))
      shift_value (Sum a c u) p = λ e. IntValue (sum_range (as_int (shift_value a p e)) (as_int (shift_value c p e)) (λ x. as_int (shifted_under u p (IntValue x) (shift_value u (IntValue x ∷ p)) e)))
      shift_value (Store a r f c) p = λ e. HeapValue (store_value (as_heap (shift_value a p e)) (as_ref (shift_value r p e)) (as_field (shift_value f p e)) (shift_value c p e))
      shift_value (Create a r) p = λ e. HeapValue (create (as_heap (shift_value a p e)) (as_ref (shift_value r p e)))
      shift_value (Anon a l g) p = λ e. HeapValue (anon (as_heap (shift_value a p e)) (λ q. shift_within l p q e) (as_heap (shift_value g p e)))
      shift_value (NamedField f) p = refl
      shift_value CreatedField p = refl
      shift_value (ElementField a) p = ap (λ v. FieldValue (Index (as_int v))) (shift_value a p)

      pub shift_within : (l : PlainLoc) (pre : List Value) (q : Location) → within i s (pre ++ z) (loc_shift (length pre) n l) q ≡ within i s (pre ++ y) l q
      shift_within NoLocations p q = refl
      shift_within AllLocations p q = refl
      shift_within (Single r f) p q = λ e. same location_coding q (location (as_ref (shift_value r p e)) (as_field (shift_value f p e)))
      shift_within (ObjectFields r) p q = λ e. same reference_coding q.at (as_ref (shift_value r p e))
      shift_within (ArrayElements r) p q = λ e. same reference_coding q.at (as_ref (shift_value r p e)) && is_index q.field
      shift_within (ElementRange r a c) p q = λ e. same reference_coding q.at (as_ref (shift_value r p e)) && in_range (as_int (shift_value a p e)) (as_int (shift_value c p e)) q.field
      shift_within (Union l m) p q = λ e. shift_within l p q e || shift_within m p q e

  module _ (b : List Value) (r : PlainTerm) where
    -- a term of one sort is taken as it is, of another as the default
    fit : (z : List Value) (up : ℕ) → ReachesTo z up b → (k : Sort) (t : Bool) → same sort_coding k (sort_of_term r) ≡ t → is_heap_sort k ≡ false → value i s z (cond t (term_shift 0 up r) (plain_term k)) ≡ taken k (value i s b r)
    fit z up h k true e n = shift_value z b up h r [] ∙ sym (taken_own k (value i s b r) n (subst (λ l. IsOf l (value i s b r)) (sym ((same_decides sort_coding k (sort_of_term r)).0 e)) (value_sort i s b r)))
    fit z up h k false e n = taken_other k (sort_of_term r) (value i s b r) i s z n (λ p. true≢false (sym ((same_decides sort_coding k (sort_of_term r)).1 p) ∙ e)) (value_sort i s b r)

    fitted_value : (z : List Value) (up : ℕ) → ReachesTo z up b → (srt : Sort) → value i s z (fitted up srt r) ≡ taken srt (value i s b r)
    fitted_value z up h HeapSort = bound_heap z 0
    fitted_value z up h IntSort = fit z up h IntSort (same sort_coding IntSort (sort_of_term r)) refl refl
    fitted_value z up h BoolSort = fit z up h BoolSort (same sort_coding BoolSort (sort_of_term r)) refl refl
    fitted_value z up h RefSort = fit z up h RefSort (same sort_coding RefSort (sort_of_term r)) refl refl
    fitted_value z up h FieldSort = fit z up h FieldSort (same sort_coding FieldSort (sort_of_term r)) refl refl

    put_value : (z pre : List Value) (up : ℕ) → ReachesTo z up (pre ++ b) → (k : ℕ) (srt : Sort) → value i s z (put_from up r (length pre) srt k) ≡ bound_at (pre ++ value i s b r ∷ b) k srt
    put_value z [] up h zero srt = fitted_value z up h srt
    put_value z [] up h (suc k) srt = h k srt
    put_value z (x ∷ pre) up h zero srt = ap (λ k. bound_at z k srt) (sym (add-zero up)) ∙ h 0 srt
    put_value z (x ∷ pre) up h (suc k) srt = put_value z pre (suc up) (reaches_next z (pre ++ b) x up h) k srt

    put_under : (a : PlainTerm) (pre : List Value) (x : Value) → value i s (x ∷ (pre ++ b)) (subst_term (suc (length pre)) r a) ≡ value i s (x ∷ (pre ++ value i s b r ∷ b)) a → value i s (x ∷ (pre ++ b)) (subst_term (length pre + 1) r a) ≡ value i s (x ∷ (pre ++ value i s b r ∷ b)) a
    put_under a pre x e = ap (λ c. value i s (x ∷ (pre ++ b)) (subst_term c r a)) (sym (suc-eq-add-one (length pre))) ∙ e

    mutual
      pub subst_value : (a : PlainTerm) (pre : List Value) → value i s (pre ++ b) (subst_term (length pre) r a) ≡ value i s (pre ++ value i s b r ∷ b) a
      subst_value (Number x) p = refl
      subst_value (Boolean x) p = refl
      subst_value NullTerm p = refl
      subst_value (ProgramVariable x) p = refl
      subst_value (Constant c) p = refl
      subst_value (Bound k srt) p = ap (λ t. value i s (p ++ b) t) (put_is r srt (length p) k) ∙ put_value (p ++ b) p 0 (reaches_all (p ++ b)) k srt
      subst_value (Arithmetic op a c) p = λ e. IntValue (arithmetic op (as_int (subst_value a p e)) (as_int (subst_value c p e)))
      subst_value (Negation a) p = ap (λ v. IntValue (neg_ℤ (as_int v))) (subst_value a p)
      subst_value (Wrap a) p = ap (λ v. IntValue (wrap32 (as_int v))) (subst_value a p)
      subst_value (Length a) p = ap (λ v. IntValue (length_of (as_ref v))) (subst_value a p)
      subst_value (Select srt a o f) p = λ e. select_at srt (as_heap (subst_value a p e)) (as_ref (subst_value o p e)) (as_field (subst_value f p e))
      subst_value (Sum a c u) p = λ e. IntValue (sum_range (as_int (subst_value a p e)) (as_int (subst_value c p e)) (λ x. as_int (put_under u p (IntValue x) (subst_value u (IntValue x ∷ p)) e)))
      subst_value (Store a o f c) p = λ e. HeapValue (store_value (as_heap (subst_value a p e)) (as_ref (subst_value o p e)) (as_field (subst_value f p e)) (subst_value c p e))
      subst_value (Create a o) p = λ e. HeapValue (create (as_heap (subst_value a p e)) (as_ref (subst_value o p e)))
      subst_value (Anon a l g) p = λ e. HeapValue (anon (as_heap (subst_value a p e)) (λ q. subst_within l p q e) (as_heap (subst_value g p e)))
      subst_value (NamedField f) p = refl
      subst_value CreatedField p = refl
      subst_value (ElementField a) p = ap (λ v. FieldValue (Index (as_int v))) (subst_value a p)

      pub subst_within : (l : PlainLoc) (pre : List Value) (q : Location) → within i s (pre ++ b) (subst_loc (length pre) r l) q ≡ within i s (pre ++ value i s b r ∷ b) l q
      subst_within NoLocations p q = refl
      subst_within AllLocations p q = refl
      subst_within (Single o f) p q = λ e. same location_coding q (location (as_ref (subst_value o p e)) (as_field (subst_value f p e)))
      subst_within (ObjectFields o) p q = λ e. same reference_coding q.at (as_ref (subst_value o p e))
      subst_within (ArrayElements o) p q = λ e. same reference_coding q.at (as_ref (subst_value o p e)) && is_index q.field
      subst_within (ElementRange o a c) p q = λ e. same reference_coding q.at (as_ref (subst_value o p e)) && in_range (as_int (subst_value a p e)) (as_int (subst_value c p e)) q.field
      subst_within (Union l m) p q = λ e. subst_within l p q e || subst_within m p q e

    pub subst_updated : (u : Pairs) (pre : List Value) (t : State) → updated i s (pre ++ b) (subst_pairs (length pre) r u) t ≡ updated i s (pre ++ value i s b r ∷ b) u t
    subst_updated [] p t = refl
    subst_updated (e ∷ u) p t = subst_updated u p _ ∙ ap (λ v. updated i s (p ++ value i s b r ∷ b) u (write t e.0 v)) (subst_value e.1 p)

  -- an index that stands nowhere may be bound to anything
  module _ (b : List Value) (v w : Value) where
    absent_at : (pre : List Value) (k : ℕ) (srt : Sort) → k ≢ length pre → bound_at (pre ++ v ∷ b) k srt ≡ bound_at (pre ++ w ∷ b) k srt
    absent_at [] zero srt n = absurd (n refl)
    absent_at [] (suc k) srt n = refl
    absent_at (x ∷ pre) zero srt n = refl
    absent_at (x ∷ pre) (suc k) srt n = absent_at pre k srt (λ e. n (ap suc e))

    mutual
      pub absent_value : (a : PlainTerm) (pre : List Value) → NotBound (length pre) a → value i s (pre ++ v ∷ b) a ≡ value i s (pre ++ w ∷ b) a
      absent_value (Number x) p o = refl
      absent_value (Boolean x) p o = refl
      absent_value NullTerm p o = refl
      absent_value (ProgramVariable x) p o = refl
      absent_value (Constant c) p o = refl
      absent_value (Bound k srt) p o = absent_at p k srt o
      absent_value (Arithmetic op a c) p o = λ e. IntValue (arithmetic op (as_int (absent_value a p o.0 e)) (as_int (absent_value c p o.1 e)))
      absent_value (Negation a) p o = ap (λ v. IntValue (neg_ℤ (as_int v))) (absent_value a p o)
      absent_value (Wrap a) p o = ap (λ v. IntValue (wrap32 (as_int v))) (absent_value a p o)
      absent_value (Length a) p o = ap (λ v. IntValue (length_of (as_ref v))) (absent_value a p o)
      absent_value (Select srt a r f) p o = λ e. select_at srt (as_heap (absent_value a p o.0 e)) (as_ref (absent_value r p o.1 e)) (as_field (absent_value f p o.2 e))
      absent_value (Sum a c u) p o = λ e. IntValue (sum_range (as_int (absent_value a p o.0 e)) (as_int (absent_value c p o.1 e)) (λ x. as_int (absent_value u (IntValue x ∷ p) o.2 e)))
      absent_value (Store a r f c) p o = λ e. HeapValue (store_value (as_heap (absent_value a p o.0 e)) (as_ref (absent_value r p o.1 e)) (as_field (absent_value f p o.2 e)) (absent_value c p o.3 e))
      absent_value (Create a r) p o = λ e. HeapValue (create (as_heap (absent_value a p o.0 e)) (as_ref (absent_value r p o.1 e)))
      absent_value (Anon a l g) p o = λ e. HeapValue (anon (as_heap (absent_value a p o.0 e)) (λ q. absent_within l p o.1 q e) (as_heap (absent_value g p o.2 e)))
      absent_value (NamedField f) p o = refl
      absent_value CreatedField p o = refl
      absent_value (ElementField a) p o = ap (λ v. FieldValue (Index (as_int v))) (absent_value a p o)

      pub absent_within : (l : PlainLoc) (pre : List Value) → NotBoundLoc (length pre) l → (q : Location) → within i s (pre ++ v ∷ b) l q ≡ within i s (pre ++ w ∷ b) l q
      absent_within NoLocations p o q = refl
      absent_within AllLocations p o q = refl
      absent_within (Single r f) p o q = λ e. same location_coding q (location (as_ref (absent_value r p o.0 e)) (as_field (absent_value f p o.1 e)))
      absent_within (ObjectFields r) p o q = λ e. same reference_coding q.at (as_ref (absent_value r p o e))
      absent_within (ArrayElements r) p o q = λ e. same reference_coding q.at (as_ref (absent_value r p o e)) && is_index q.field
      absent_within (ElementRange r a c) p o q = λ e. same reference_coding q.at (as_ref (absent_value r p o.0 e)) && in_range (as_int (absent_value a p o.1 e)) (as_int (absent_value c p o.2 e)) q.field
      absent_within (Union l m) p o q = λ e. absent_within l p o.0 q e || absent_within m p o.1 q e

    pub absent_updated : (u : Pairs) (pre : List Value) → NotBoundPairs (length pre) u → (t : State) → updated i s (pre ++ v ∷ b) u t ≡ updated i s (pre ++ w ∷ b) u t
    absent_updated [] p o t = refl
    absent_updated (e ∷ u) p o t = absent_updated u p o.1 _ ∙ ap (λ x. updated i s (p ++ w ∷ b) u (write t e.0 x)) (absent_value e.1 p o.0)

pub if_ends_same : {A : Type 0} (o : Outcome A) (F G : State → Type 0) → ((t : State) → F t ≡ G t) → IfEnds o F ≡ IfEnds o G
if_ends_same (Normal u t) F G h = h t
if_ends_same (Broke l t) F G h = refl
if_ends_same (Returned v t) F G h = refl
if_ends_same (Thrown r t) F G h = refl
if_ends_same (Stopped t) F G h = h t
if_ends_same NoLength F G h = refl
if_ends_same NotEnded F G h = refl

pub ends_in_same : {A : Type 0} (o : Outcome A) (F G : State → Type 0) → ((t : State) → F t ≡ G t) → EndsIn o F ≡ EndsIn o G
ends_in_same (Normal u t) F G h = h t
ends_in_same (Broke l t) F G h = refl
ends_in_same (Returned v t) F G h = refl
ends_in_same (Thrown r t) F G h = refl
ends_in_same (Stopped t) F G h = h t
ends_in_same NoLength F G h = refl
ends_in_same NotEnded F G h = refl

outside : (a : PlainFormula) (c : ℕ) → NotBoundIn c a → Outside c a
outside TrueFormula c o = tt
outside FalseFormula c o = tt
outside (Not a) c o = outside a c o
outside (And a e) c o = (outside a c o.0, outside e c o.1)
outside (Or a e) c o = (outside a c o.0, outside e c o.1)
outside (Implies a e) c o = (outside a c o.0, outside e c o.1)
outside (Iff a e) c o = (outside a c o.0, outside e c o.1)
outside (Equal t u) c o = tt
outside (Less t u) c o = tt
outside (LessOrEqual t u) c o = tt
outside (Forall s a) c o = outside a (suc c) o
outside (Exists s a) c o = outside a (suc c) o
outside (Updated u a) c o = o.1
outside (Modal m k a) c o = o
outside (InLocations r f l) c o = tt
outside (InInt t) c o = tt
outside (WellFormed h) c o = tt
outside (Invariant h r) c o = tt
outside (IsInstance k r) c o = tt
outside (IsExactInstance k r) c o = tt

first_half : {X A B : Type 0} → X ⊎ (A × B) → X ⊎ A
first_half (inl x) = inl x
first_half (inr p) = inr p.0

second_half : {X A B : Type 0} → X ⊎ (A × B) → X ⊎ B
second_half (inl x) = inl x
second_half (inr p) = inr p.1

module _ (g : Setting) (d : ℕ) (inv : Heap → Reference → Type 0) (i : State) (b : List Value) where
  absent_truth : (v w : Value) (a : PlainFormula) (p : List Value) → NotBoundIn (length p) a → (s : State) → truth g d inv i s (p ++ v ∷ b) a ≡ truth g d inv i s (p ++ w ∷ b) a
  absent_truth v w TrueFormula p o s = refl
  absent_truth v w FalseFormula p o s = refl
  absent_truth v w (Not a) p o s = λ e. ¬ (absent_truth v w a p o s e)
  absent_truth v w (And a c) p o s = λ e. absent_truth v w a p o.0 s e × absent_truth v w c p o.1 s e
  absent_truth v w (Or a c) p o s = λ e. EitherOf (absent_truth v w a p o.0 s e) (absent_truth v w c p o.1 s e)
  absent_truth v w (Implies a c) p o s = λ e. absent_truth v w a p o.0 s e → absent_truth v w c p o.1 s e
  absent_truth v w (Iff a c) p o s = λ e. (absent_truth v w a p o.0 s e → absent_truth v w c p o.1 s e) × (absent_truth v w c p o.1 s e → absent_truth v w a p o.0 s e)
  absent_truth v w (Equal a c) p o s = λ e. absent_value i s b v w a p o.0 e ≡ absent_value i s b v w c p o.1 e
  absent_truth v w (Less a c) p o s = λ e. int_lt (as_int (absent_value i s b v w a p o.0 e)) (as_int (absent_value i s b v w c p o.1 e)) ≡ true
  absent_truth v w (LessOrEqual a c) p o s = λ e. int_le (as_int (absent_value i s b v w a p o.0 e)) (as_int (absent_value i s b v w c p o.1 e)) ≡ true
  absent_truth v w (Forall k a) p o s = λ e. (x : Value) → IsOf k x → absent_truth v w a (x ∷ p) o s e
  absent_truth v w (Exists k a) p o s = λ e. ¬ ((x : Value) → IsOf k x → ¬ (absent_truth v w a (x ∷ p) o s e))
  absent_truth v w (Updated u a) p o s = absent_truth v w a p o.1 _ ∙ ap (λ t. truth g d inv i t (p ++ w ∷ b) a) (absent_updated i s b v w u p o.0 s)
  absent_truth v w (Modal modalities.Necessity c a) p o s = λ e. (n : ℕ) → if_ends_same (exec_at g.program d n c s) (λ t. truth g d inv i t (p ++ v ∷ b) a) (λ t. truth g d inv i t (p ++ w ∷ b) a) (λ t. absent_truth v w a p o t) e
  absent_truth v w (Modal modalities.Possibility c a) p o s = λ e. ¬ ((k n : ℕ) → ¬ (ends_in_same (exec_at g.program k n c s) (λ t. truth g d inv i t (p ++ v ∷ b) a) (λ t. truth g d inv i t (p ++ w ∷ b) a) (λ t. absent_truth v w a p o t) e))
  absent_truth v w (InLocations r f l) p o s = λ e. absent_within i s b v w l p o.2 (location (as_ref (absent_value i s b v w r p o.0 e)) (as_field (absent_value i s b v w f p o.1 e))) e ≡ true
  absent_truth v w (InInt a) p o s = ap (λ x. in_int (as_int x) ≡ true) (absent_value i s b v w a p o)
  absent_truth v w (WellFormed a) p o s = ap (λ x. IsWf g x) (absent_value i s b v w a p o)
  absent_truth v w (Invariant a r) p o s = λ e. inv (as_heap (absent_value i s b v w a p o.0 e)) (as_ref (absent_value i s b v w r p o.1 e))
  absent_truth v w (IsInstance k r) p o s = ap (λ x. is_instance g.program k (as_ref x) ≡ true) (absent_value i s b v w r p o)
  absent_truth v w (IsExactInstance k r) p o s = ap (λ x. is_exactly k (as_ref x) ≡ true) (absent_value i s b v w r p o)

  module _ (r : PlainTerm) where
    -- the term's value does not hang on the state, or the index is not there to see it
    moved : (a : PlainFormula) (p : List Value) → NoVariable r ⊎ NotBoundIn (length p) a → (s t : State) → truth g d inv i t (p ++ value i t b r ∷ b) a ≡ truth g d inv i t (p ++ value i s b r ∷ b) a
    moved a p (inl o) s t = ap (λ v. truth g d inv i t (p ++ v ∷ b) a) (value_agree (λ _. ⊥) (λ _. Unit {0}) i i t s (λ x _. refl) (λ x f. absurd f) r o b)
    moved a p (inr o) s t = absent_truth (value i t b r) (value i s b r) a p o t

    still : (a : PlainFormula) (p : List Value) → NoVariable r ⊎ NotBoundIn (length p) a → NoVariable r ⊎ Outside (length p) a
    still a p (inl o) = inl o
    still a p (inr o) = inr (outside a (length p) o)

    bound_under : (a : PlainFormula) (p : List Value) (x : Value) (s : State) → truth g d inv i s (x ∷ (p ++ b)) (subst_formula (suc (length p)) r a) ≡ truth g d inv i s (x ∷ (p ++ value i s b r ∷ b)) a → truth g d inv i s (x ∷ (p ++ b)) (subst_formula (length p + 1) r a) ≡ truth g d inv i s (x ∷ (p ++ value i s b r ∷ b)) a
    bound_under a p x s e = ap (λ c. truth g d inv i s (x ∷ (p ++ b)) (subst_formula c r a)) (sym (suc-eq-add-one (length p))) ∙ e

    pub subst_truth : (a : PlainFormula) (p : List Value) → Steady (length p) r a → (s : State) → truth g d inv i s (p ++ b) (subst_formula (length p) r a) ≡ truth g d inv i s (p ++ value i s b r ∷ b) a
    subst_truth TrueFormula p o s = refl
    subst_truth FalseFormula p o s = refl
    subst_truth (Not a) p o s = λ e. ¬ (subst_truth a p o s e)
    subst_truth (And a c) p o s = λ e. subst_truth a p (first_half o) s e × subst_truth c p (second_half o) s e
    subst_truth (Or a c) p o s = λ e. EitherOf (subst_truth a p (first_half o) s e) (subst_truth c p (second_half o) s e)
    subst_truth (Implies a c) p o s = λ e. subst_truth a p (first_half o) s e → subst_truth c p (second_half o) s e
    subst_truth (Iff a c) p o s = λ e. (subst_truth a p (first_half o) s e → subst_truth c p (second_half o) s e) × (subst_truth c p (second_half o) s e → subst_truth a p (first_half o) s e)
    subst_truth (Equal a c) p o s = λ e. subst_value i s b r a p e ≡ subst_value i s b r c p e
    subst_truth (Less a c) p o s = λ e. int_lt (as_int (subst_value i s b r a p e)) (as_int (subst_value i s b r c p e)) ≡ true
    subst_truth (LessOrEqual a c) p o s = λ e. int_le (as_int (subst_value i s b r a p e)) (as_int (subst_value i s b r c p e)) ≡ true
    subst_truth (Forall k a) p o s = λ e. (x : Value) → IsOf k x → bound_under a p x s (subst_truth a (x ∷ p) o s) e
    subst_truth (Exists k a) p o s = λ e. ¬ ((x : Value) → IsOf k x → ¬ (bound_under a p x s (subst_truth a (x ∷ p) o s) e))
    subst_truth (Updated u a) p o s =
        ap (λ t. truth g d inv i t (p ++ b) (subst_formula (length p) r a)) (subst_updated i s b r u p s)
        ∙ subst_truth a p (still a p o) (updated i s (p ++ value i s b r ∷ b) u s)
        ∙ moved a p o s (updated i s (p ++ value i s b r ∷ b) u s)
    subst_truth (Modal modalities.Necessity c a) p o s = λ e. (n : ℕ) → if_ends_same (exec_at g.program d n c s) (λ t. truth g d inv i t (p ++ b) (subst_formula (length p) r a)) (λ t. truth g d inv i t (p ++ value i s b r ∷ b) a) (λ t. subst_truth a p (still a p o) t ∙ moved a p o s t) e
    subst_truth (Modal modalities.Possibility c a) p o s = λ e. ¬ ((k n : ℕ) → ¬ (ends_in_same (exec_at g.program k n c s) (λ t. truth g d inv i t (p ++ b) (subst_formula (length p) r a)) (λ t. truth g d inv i t (p ++ value i s b r ∷ b) a) (λ t. subst_truth a p (still a p o) t ∙ moved a p o s t) e))
    subst_truth (InLocations q f l) p o s = λ e. subst_within i s b r l p (location (as_ref (subst_value i s b r q p e)) (as_field (subst_value i s b r f p e))) e ≡ true
    subst_truth (InInt a) p o s = ap (λ x. in_int (as_int x) ≡ true) (subst_value i s b r a p)
    subst_truth (WellFormed a) p o s = ap (λ x. IsWf g x) (subst_value i s b r a p)
    subst_truth (Invariant a q) p o s = λ e. inv (as_heap (subst_value i s b r a p e)) (as_ref (subst_value i s b r q p e))
    subst_truth (IsInstance k q) p o s = ap (λ x. is_instance g.program k (as_ref x) ≡ true) (subst_value i s b r q p)
    subst_truth (IsExactInstance k q) p o s = ap (λ x. is_exactly k (as_ref x) ≡ true) (subst_value i s b r q p)
