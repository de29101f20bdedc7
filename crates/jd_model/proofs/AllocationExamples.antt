-- The examples of allocations, by computation.
use Rattle.std.proofs.Common.{◌≡◌, ◌≤◌, ◌<◌, ℕ, zero, suc, Bool, true, false, cond, ◌||◌, pos, ⊎_elim, None, refl, sym, ap, ◌∙◌, subst, true≢false, arith}
use Rattle.std.specs.Prelude.{int_le, nat_eq}
use Rattle.std.proofs.lemmas.Bool.{cases_lt, le-ltb, lt-leb}
use Rattle.std.specs.FinMap.{len}
use Rattle.jd_base.specs.declared.sort.Sort.{Sort}
use Rattle.jd_base.specs.declared.sort.Sort.TheVariants.{Int as IntSort, Bool as BoolSort, Ref as RefSort, Heap as HeapSort, Field as FieldSort}
use Rattle.jd_syntax.specs.Names.{Name}
use Rattle.jd_syntax.specs.CodeNames.{same_name, heap_name}
use Rattle.jd_heap.specs.Codings.{same, same_decides}
use Rattle.jd_heap.specs.ReferenceCodings.{reference_coding}
use Rattle.jd_heap.specs.References.{Reference, Object, Array, Field, Named, Created, Index, location, is_null, is_created_field}
use Rattle.jd_heap.specs.Heaps.{Heap, entry, empty_heap, length_of, create, is_created, is_length, int_in, bool_in, ref_in, select_int}
use Rattle.jd_heap.specs.Allocation.{least_free, fresh_object, fresh_array}
use Rattle.jd_heap.specs.Values.{IntValue, BoolValue, RefValue, as_ref, default, select_at}
use Rattle.jd_heap.proofs.Entries.{entry-empty}
use Rattle.jd_heap.proofs.Fresh.{fresh_is_free}
use Rattle.jd_model.specs.States.{State, read, heap_of, with_heap}
use Rattle.jd_model.specs.Programs.{Program, field_sort}
use Rattle.jd_syntax.specs.Codes.{AllocObject, NewArray}
use Rattle.jd_model.specs.Outcomes.{Normal, NoLength, then}
use Rattle.jd_model.specs.Runs.{Runner, exec, raise, allocated, array_allocated, at_index, unless_null, is_outside, magnitude}
use Rattle.jd_model.specs.Examples.{array, other, object, number, only}
use Rattle.jd_model.specs.AllocationExamples.{LeastFreeNumber, FirstObject, SecondObject, TwoObjects, NewFieldIsDefault, NegativeLength, BadLength, NewArrayLength, NewElementIsZero}
use Rattle.jd_model.proofs.States.{read-write}
use Rattle.jd_model.proofs.Grows.{heap_written, same_heap}
use Rattle.jd_model.proofs.NewObjects.{after_normal, gives_by, created_here, emptied, create_keeps_others, raises}

least_at_most : (f : ℕ) (t : ℕ → Bool) (m n : ℕ) → m ≤ n → t n ≡ false → least_free f t m ≤ n
least_at_most zero t m n le e = le
least_at_most (suc f) t m n le e = by (t m) refl (λ lt. least_at_most f t (suc m) n lt e)
  where
    by : (b : Bool) → t m ≡ b → (suc m ≤ n → least_free f t (suc m) ≤ n) → cond b (least_free f t (suc m)) m ≤ n
    by false q rest = le
    by true q rest = rest (⊎_elim (λ (lt : m < n). lt) (λ (ge : n ≤ m). let same_number : m ≡ n = omega arith in absurd (true≢false (sym q ∙ ap t same_number ∙ e))) (cases_lt m n))

fresh_least : (h : Heap) (c k : ℕ) → is_created h (Object c k) ≡ false → ((m : ℕ) → m < k → is_created h (Object c m) ≡ true) → fresh_object h c ≡ Object c k
unfolding fresh_object
fresh_least h c k free taken =
    let l = least_free (len h.map) (λ m. is_created h (Object c m)) 0 in
    let at_most : l ≤ k = least_at_most (len h.map) (λ m. is_created h (Object c m)) 0 k (omega arith) free in
    ap (Object c) (⊎_elim (λ (lt : l < k). absurd (true≢false (sym (taken l lt) ∙ fresh_is_free h c))) (λ (ge : k ≤ l). let same_number : l ≡ k = omega arith in same_number) (cases_lt l k))

pub least_free_number : LeastFreeNumber
least_free_number p run n c k x s free taken = ap (λ r. Normal tt (allocated s x r)) (fresh_least (heap_of s) c k free taken)

pub first_object : FirstObject
first_object p run n c x s e = least_free_number p run n c 0 x s
    (ap (λ h. is_created h (Object c 0)) e ∙ ap bool_in (entry-empty (location (Object c 0) Created)))
    (λ m lt. absurd (omega arith))

pub second_object : SecondObject
second_object p run n c x s taken free = least_free_number p run n c 1 x s free
    (λ m lt. let none : 0 ≡ m = omega arith in subst (λ m. is_created (heap_of s) (Object c m) ≡ true) none taken)

default_at : (k : Sort) (h : Heap) (o : Reference) (f : Field) → entry h (location o f) ≡ None → select_at k h o f ≡ default k
default_at IntSort h o f e = ap (λ x. IntValue (int_in x)) e
default_at BoolSort h o f e = ap (λ x. BoolValue (bool_in x)) e
default_at RefSort h o f e = ap (λ x. RefValue (ref_in x)) e
default_at HeapSort h o f e = refl
default_at FieldSort h o f e = refl

-- after an allocation the variable names the new object, which has no other entry than `created`
allocated_heap : (s : State) (x : Name) (r : Reference) → same_name heap_name x ≡ false → heap_of (allocated s x r) ≡ create (heap_of s) r
allocated_heap s x r n = same_heap (with_heap s (create (heap_of s) r)) x (RefValue r) n ∙ heap_written s (create (heap_of s) r)

no_entry : (s : State) (x : Name) (r : Reference) (f : Field) → same_name heap_name x ≡ false → is_created_field f ≡ false → entry (heap_of (allocated s x r)) (location r f) ≡ None
no_entry s x r f n m = ap (λ h. entry h (location r f)) (allocated_heap s x r n) ∙ emptied (heap_of s) r f m

abbrev number_of : Reference → ℕ
number_of (Object c n) = n
number_of r = 0

other_number : (c : ℕ) (b : Bool) → same reference_coding (Object c 1) (Object c 0) ≡ b → b ≡ false
other_number c false e = refl
other_number c true e = absurd (true≢false (ap (λ r. nat_eq (number_of r) 1) ((same_decides reference_coding (Object c 1) (Object c 0)).0 e)))

pub two_objects : TwoObjects
two_objects p run n c s e =
    let first : Reference = Object c 0 in
    let t : State = allocated s object first in
    let heap_is : heap_of t ≡ create empty_heap first = allocated_heap s object first refl ∙ ap (λ h. create h first) e in
    let taken : is_created (heap_of t) first ≡ true = ap (λ h. is_created h first) heap_is ∙ created_here empty_heap first in
    let free : is_created (heap_of t) (Object c 1) ≡ false =
    ap (λ h. is_created h (Object c 1)) heap_is
    ∙ sym (create_keeps_others empty_heap first (Object c 1) Created (other_number c _ refl)).1
    ∙ ap bool_in (entry-empty (location (Object c 1) Created)) in
    after_normal _ (λ _ u. exec p run n (only (AllocObject other c)) u) tt t (first_object p run n c object s e) ∙ ap (λ o. then o (λ _ u. Normal tt u)) (second_object p run n c other t taken free)

fresh_is_object : (h : Heap) (c : ℕ) → is_null (fresh_object h c) ≡ false
unfolding fresh_object
fresh_is_object h c = refl

pub new_field_is_default : NewFieldIsDefault
new_field_is_default p run n c f s =
    let r : Reference = fresh_object (heap_of s) c in
    let t : State = allocated s object r in
    let k : Sort = field_sort p f in
    gives_by _ _ _ t
    (ap (λ v. unless_null p (as_ref v) t (Normal (select_at k (heap_of t) (as_ref v) (Named f)) t)) (read-write (with_heap s (create (heap_of s) r)) object (RefValue r) object)
    ∙ ap (λ b. cond b (raise p p.null_pointer t) (Normal (select_at k (heap_of t) r (Named f)) t)) (fresh_is_object (heap_of s) c))
    (default_at k (heap_of t) r (Named f) (no_entry s object r (Named f) refl refl))

pub negative_length : NegativeLength
negative_length p run n x a z s t e m = raises p p.negative_size t _ (after_normal _ _ (IntValue z) t e ∙ ap (λ b. cond b (raise p p.negative_size t) (array_allocated t x z)) m)

pub bad_length : BadLength
bad_length p run n x a z s t e m = after_normal _ _ (IntValue z) t e ∙ ap (λ b. cond b (Normal tt (allocated t x (fresh_array (heap_of t) (magnitude z)))) NoLength) m

fresh_is_array : (h : Heap) (l : ℕ) → (k : ℕ) × (fresh_array h l ≡ Array l k)
unfolding fresh_array
fresh_is_array h l = (_, refl)

module _ (p : Program) (run : Runner p) (n l : ℕ) (s : State) (fits : is_length (pos l) ≡ true) where
  pub array_is_new : (k : ℕ) → fresh_array (heap_of s) l ≡ Array l k → exec p run n (only (NewArray array (number l))) s ≡ Normal tt (allocated s array (Array l k))
  array_is_new k e =
      ap (λ b. then (cond b (raise p p.negative_size s) (array_allocated s array (pos l))) (λ _ t. Normal tt t)) (le-ltb l 0 (omega arith))
      ∙ ap (λ b. then (cond b (Normal tt (allocated s array (fresh_array (heap_of s) l))) NoLength) (λ _ t. Normal tt t)) fits
      ∙ ap (λ r. Normal tt (allocated s array r)) e

  array_is_named : (k : ℕ) → read (allocated s array (Array l k)) array ≡ RefValue (Array l k)
  array_is_named k = read-write (with_heap s (create (heap_of s) (Array l k))) array (RefValue (Array l k)) array

  length_is : (k : ℕ) → length_of (Array l k) ≡ pos l
  length_is k = ap (λ b. cond b (pos l) (pos 0)) fits

pub new_array_length : NewArrayLength
new_array_length p run n l s fits =
    let made = fresh_is_array (heap_of s) l in
    let t : State = allocated s array (Array l made.0) in
    gives_by _ _ _ t
    (after_normal _ _ tt t (array_is_new p run n l s fits made.0 made.1)
    ∙ ap (λ v. unless_null p (as_ref v) t (Normal (IntValue (length_of (as_ref v))) t)) (array_is_named p run n l s fits made.0))
    (ap IntValue (length_is p run n l s fits made.0))

pub new_element_is_zero : NewElementIsZero
new_element_is_zero p run n l k s fits lt =
    let made = fresh_is_array (heap_of s) l in
    let r : Reference = Array l made.0 in
    let t : State = allocated s array r in
    let inside : is_outside (pos k) r ≡ false = λ j. le-ltb k 0 (omega arith) j || (ap (λ z. int_le z (pos k)) (length_is p run n l s fits made.0) ∙ lt-leb l k lt) j in
    gives_by _ _ _ t
    (after_normal _ _ tt t (array_is_new p run n l s fits made.0 made.1)
    ∙ ap (λ v. at_index p (as_ref v) (pos k) t (Normal (IntValue (select_int (heap_of t) (as_ref v) (Index (pos k)))) t)) (array_is_named p run n l s fits made.0)
    ∙ ap (λ b. cond b (raise p p.bounds t) (Normal (IntValue (select_int (heap_of t) r (Index (pos k)))) t)) inside)
    (ap (λ x. IntValue (int_in x)) (no_entry s array r (Index (pos k)) refl refl))
