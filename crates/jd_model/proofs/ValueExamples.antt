-- The examples of values and of elements of arrays, by computation.
use Rattle.std.proofs.Common.{◌≡◌, ℕ, cond, ◌||◌, pos, ◌+ℤ◌, ◌*ℤ◌, Some, refl, ap, ◌∙◌}
use Rattle.std.specs.Int.{int_wrap}
use Rattle.jd_syntax.specs.CodeNames.{heap_name}
use Rattle.jd_heap.specs.Codings.{same_decides}
use Rattle.jd_heap.specs.References.{Null, Array, Index, location}
use Rattle.jd_heap.specs.ReferenceCodings.{location_coding}
use Rattle.jd_heap.specs.Heaps.{Heap, IntEntry, entry, store, int_in, select_int}
use Rattle.jd_heap.specs.Values.{Value, IntValue, RefValue, HeapValue, as_ref, as_int}
use Rattle.jd_heap.proofs.Entries.{entry-store}
use Rattle.jd_model.specs.States.{State, read, write, heap_of, with_heap}
use Rattle.jd_syntax.specs.Codes.{Variable, ReadElement, WriteElement, DoThen, Set}
use Rattle.jd_model.specs.Outcomes.{Outcome, Normal, then}
use Rattle.jd_model.specs.Runs.{eval, exec, raise, at_index, wrap32}
use Rattle.jd_model.specs.Examples.{i, array, other, object, number, only, SmallestByMinusOne, SmallestRestMinusOne, LargestPlusOne, SmallestLessOne, ProductsAreCut, QuotientsTowardZero, RemaindersLikeDividend, SmallestNegated, ZeroDivisor, OneByZero, LeftThrows, LeftThrowsInSum, RightThrows, RightSeesLeft, LeftIsKept, ArgumentThrows, ShortCircuits, OneIsChosen, NullBeforeIndex, IndexBeforeNull, ValueBeforeNull, OutsideIndex, IndexesOfTwo, ElementIsWritten, ArrayIsKept, NullIsCast, NullIsNoInstance, WrongCast}
use Rattle.jd_model.proofs.States.{read-write}
use Rattle.jd_model.proofs.Grows.{heap_written, same_heap}
use Rattle.jd_model.proofs.NewObjects.{after_normal, after_thrown, gives_by, comes_new, raises}

-- ---- arithmetic

pub smallest_by_minus_one : SmallestByMinusOne
unfolding int_wrap
smallest_by_minus_one p run n s = refl

pub smallest_rest_minus_one : SmallestRestMinusOne
unfolding int_wrap
smallest_rest_minus_one p run n s = refl

pub largest_plus_one : LargestPlusOne
unfolding int_wrap
largest_plus_one p run n s = refl

pub smallest_less_one : SmallestLessOne
unfolding int_wrap
smallest_less_one p run n s = refl

pub products_are_cut : ProductsAreCut
unfolding int_wrap
products_are_cut = (λ p run n s. refl, λ p run n s. refl)

pub quotients_toward_zero : QuotientsTowardZero
unfolding int_wrap
quotients_toward_zero = (λ p run n s. refl, λ p run n s. refl, λ p run n s. refl)

pub remainders_like_dividend : RemaindersLikeDividend
unfolding int_wrap
remainders_like_dividend = (λ p run n s. refl, λ p run n s. refl, λ p run n s. refl)

pub smallest_negated : SmallestNegated
unfolding int_wrap
smallest_negated p run n s = refl

-- ---- operands

pub zero_divisor : ZeroDivisor
zero_divisor p run n a b s t u v e f = (
  raises p p.arithmetic u _ (after_normal _ _ v t e ∙ after_normal _ _ (IntValue (pos 0)) u f),
  raises p p.arithmetic u _ (after_normal _ _ v t e ∙ after_normal _ _ (IntValue (pos 0)) u f),
)

pub one_by_zero_throws : OneByZero
one_by_zero_throws p run n s = comes_new p.arithmetic s

pub left_throws : LeftThrows
left_throws p run n op a b s t r e = after_thrown _ _ r t e

pub left_throws_in_sum : LeftThrowsInSum
left_throws_in_sum p run n b s = comes_new p.arithmetic s

pub right_throws : RightThrows
right_throws p run n op a b s t u v r e f = after_normal _ _ v t e ∙ after_thrown _ _ r u f

pub right_sees_left : RightSeesLeft
unfolding int_wrap
right_sees_left p run n s =
    let t : State = write s i (IntValue (pos 3)) in
    ap (λ v. Normal (IntValue (wrap32 (as_int v *ℤ as_int v))) t) (read-write s i (IntValue (pos 3)) i)

pub left_is_kept : LeftIsKept
unfolding int_wrap
left_is_kept p run n s e =
    let t : State = write s i (IntValue (pos 3)) in
    λ j. Normal (IntValue (wrap32 (as_int (e j) +ℤ as_int (read-write s i (IntValue (pos 3)) i j)))) t

pub argument_throws : ArgumentThrows
argument_throws p run n m a bs s t r e = after_thrown _ _ r t (after_thrown _ _ r t e)

pub short_circuits : ShortCircuits
short_circuits p run n b s = (refl, refl)

pub one_is_chosen : OneIsChosen
one_is_chosen p run n a b s = (refl, refl)

-- ---- elements of arrays

pub null_before_index : NullBeforeIndex
null_before_index p run n a b s t u w e f = raises p p.null_pointer u _ (after_normal _ _ (RefValue Null) t e ∙ after_normal _ _ w u f)

pub index_before_null : IndexBeforeNull
index_before_null p run n a b s t u v r e f = after_normal _ _ v t e ∙ after_thrown _ _ r u f

pub value_before_null : ValueBeforeNull
value_before_null p run n a b c s t u x v w r e f g = after_normal _ _ v t e ∙ after_normal _ _ w u f ∙ after_thrown _ _ r x g

pub outside_index : OutsideIndex
outside_index p run n l k a b z s t u e f o = raises p p.bounds u _ (
    after_normal _ _ (RefValue (Array l k)) t e
    ∙ after_normal _ _ (IntValue z) u f
    ∙ ap (λ b. cond b (raise p p.bounds u) (Normal (IntValue (select_int (heap_of u) (Array l k) (Index z))) u)) o)

pub indexes_of_two : IndexesOfTwo
indexes_of_two k = (refl, refl, refl, refl)

pub element_is_written : ElementIsWritten
element_is_written p run n k s e =
    let h : Heap = store (heap_of s) (Array 2 k) (Index (pos 1)) (IntEntry (pos 7)) in
    let t : State = with_heap s h in
    let written : exec p run n (only (WriteElement (Variable array) (number 1) (number 7))) s ≡ Normal tt t =
    ap (λ v. then (at_index p (as_ref v) (pos 1) s (Normal tt (with_heap s (store (heap_of s) (as_ref v) (Index (pos 1)) (IntEntry (pos 7)))))) (λ _ t. Normal tt t)) e in
    let read_there : read t array ≡ RefValue (Array 2 k) = read-write s heap_name (HeapValue h) array ∙ e in
    let element : select_int (heap_of t) (Array 2 k) (Index (pos 1)) ≡ pos 7 =
    ap (λ k'. select_int k' (Array 2 k) (Index (pos 1))) (heap_written s h)
    ∙ ap int_in (entry-store (heap_of s) (Array 2 k) (Index (pos 1)) (IntEntry (pos 7)) (location (Array 2 k) (Index (pos 1))))
    ∙ ap (λ b. int_in (cond b (Some (IntEntry (pos 7))) (entry (heap_of s) (location (Array 2 k) (Index (pos 1)))))) ((same_decides location_coding _ (location (Array 2 k) (Index (pos 1)))).1 refl) in
    gives_by _ _ _ t
    (after_normal _ _ tt t written ∙ ap (λ v. at_index p (as_ref v) (pos 1) t (Normal (IntValue (select_int (heap_of t) (as_ref v) (Index (pos 1)))) t)) read_there)
    (ap IntValue element)

pub array_is_kept : ArrayIsKept
array_is_kept p run n k m s is_array is_other fourteen three =
    let t : State = write s array (RefValue (Array 4 m)) in
    let element : Value → State → Outcome Value = λ v t. at_index p (as_ref v) (pos 3) t (Normal (IntValue (select_int (heap_of t) (as_ref v) (Index (pos 3)))) t) in
    let kept : (k : ℕ) → select_int (heap_of t) (Array 4 k) (Index (pos 3)) ≡ select_int (heap_of s) (Array 4 k) (Index (pos 3)) = λ k. ap (λ h. select_int h (Array 4 k) (Index (pos 3))) (same_heap s array (RefValue (Array 4 m)) refl) in
    let index : eval p run n (ReadElement (DoThen (only (Set array (Variable other))) (Variable array)) (number 3)) s ≡ Normal (IntValue (pos 3)) t =
    ap (λ v. element (read (write s array v) array) (write s array v)) is_other
    ∙ ap (λ v. element v t) (read-write s array (RefValue (Array 4 m)) array)
    ∙ ap (λ z. Normal (IntValue z) t) (kept m ∙ three) in
    after_normal _ _ (IntValue (pos 3)) t index ∙ ap (λ v. element v t) is_array ∙ ap (λ z. Normal (IntValue z) t) (kept k ∙ fourteen)

-- ---- casts and `instanceof`

pub null_is_cast : NullIsCast
null_is_cast p run n k s = refl

pub null_is_no_instance : NullIsNoInstance
null_is_no_instance p run n k s = refl

pub wrong_cast : WrongCast
wrong_cast p run n k a r s t e object none = raises p p.cast t _ (
    after_normal _ _ (RefValue r) t e
    ∙ (λ j. cond (object j || none j) (Normal (RefValue r) t) (raise p p.cast t)))
