-- What is read of a state after a write, and states by what is read.
use Rattle.std.specs.Prelude.{◌≡◌, zero, suc, Bool, true, false, cond, not, ℤ, pos, negsuc, Option, Some, None, nat_eq, Decides}
use Rattle.std.proofs.Common.{refl, sym, ap, ◌∙◌, true≢false, eqb→eq}
use Rattle.std.specs.Bool.{passes}
use Rattle.std.specs.FinMap.{len, get, get-empty, empty_of_len}
use Rattle.jd_base.specs.declared.sort.Sort.{Sort}
use Rattle.jd_base.specs.declared.sort.Sort.TheVariants.{Int as IntSort, Bool as BoolSort, Ref as RefSort, Heap as HeapSort, Field as FieldSort}
use Rattle.jd_syntax.specs.Names.{Name}
use Rattle.jd_syntax.specs.CodeNames.{same_name}
use Rattle.jd_syntax.proofs.NameTests.{same_name_decides}
use Rattle.jd_heap.specs.Codings.{same, same_decides, order}
use Rattle.jd_heap.specs.References.{Reference, Null, Object, Array, Field, Named, Created, Index, is_null, is_created_field}
use Rattle.jd_heap.specs.ReferenceCodings.{location_coding}
use Rattle.jd_heap.specs.SparseMaps.{find, sparse_same, find-no_entries, find-put, kept_value}
use Rattle.jd_heap.specs.Heaps.{Heap, empty_heap, is_zero, is_proper}
use Rattle.jd_heap.specs.Values.{Value, IntValue, BoolValue, RefValue, HeapValue, FieldValue, as_int, as_ref, as_heap, as_field, at_sort, default, IsOf}
use Rattle.jd_heap.proofs.Entries.{entry-empty, len-empty_heap}
use Rattle.jd_model.specs.NameCodings.{name_coding}
use Rattle.jd_model.specs.States.{is_worth, worth_at, State, read_in, read, write, empty_state}

-- two tests of one thing agree
same_tests : {P : Type 0} (a b : Bool) → Decides a P → Decides b P → a ≡ b
same_tests true true f g = refl
same_tests true false f g = absurd (true≢false (sym (g.1 (f.0 refl))))
same_tests false true f g = absurd (true≢false (sym (f.1 (g.0 refl))))
same_tests false false f g = refl

one_test : (x y : Name) → same name_coding x y ≡ same_name x y
one_test x y = same_tests _ _ (same_decides name_coding x y) (same_name_decides x y)

-- what is not worth an entry is the default
empty_by : (h : Heap) → nat_eq (len h.map) 0 ≡ true → h ≡ empty_heap
empty_by h e = sparse_same location_coding is_proper h empty_heap (λ l.
    (λ i. get (empty_of_len h.map (eqb→eq _ _ (passes _ e)) i) l) ∙ get-empty (order location_coding) l ∙ sym (entry-empty l))

flip_not : (b : Bool) → not b ≡ false → b ≡ true
flip_not true e = refl
flip_not false e = absurd (true≢false e)

unworthy : (s : Sort) (v : Value) → is_worth s (at_sort s v) ≡ false → at_sort s v ≡ default s
unworthy IntSort v = by (as_int v)
  where
    by : (z : ℤ) → not (is_zero z) ≡ false → IntValue z ≡ IntValue (pos 0)
    by (pos zero) e = refl
    by (pos (suc n)) e = absurd (true≢false e)
    by (negsuc n) e = absurd (true≢false e)
unworthy BoolSort v = λ e. ap BoolValue e
unworthy RefSort v = by (as_ref v)
  where
    by : (r : Reference) → not (is_null r) ≡ false → RefValue r ≡ RefValue Null
    by Null e = refl
    by (Object c n) e = absurd (true≢false e)
    by (Array l n) e = absurd (true≢false e)
unworthy HeapSort v = λ e. ap HeapValue (empty_by (as_heap v) (flip_not _ e))
unworthy FieldSort v = by (as_field v)
  where
    by : (f : Field) → not (is_created_field f) ≡ false → FieldValue f ≡ FieldValue Created
    by Created e = refl
    by (Named f) e = absurd (true≢false e)
    by (Index i) e = absurd (true≢false e)

read_kept : (s : Sort) (v : Value) (b : Bool) → is_worth s (at_sort s v) ≡ b → read_in s (cond b (Some (at_sort s v)) None) ≡ at_sort s v
read_kept s v true e = refl
read_kept s v false e = sym (unworthy s v e)

read_written : (s : State) (x : Name) (v : Value) (q : Name) (b : Bool) → same name_coding q x ≡ b → read_in q.sort (cond b (kept_value name_coding worth_at x (at_sort x.sort v)) (find name_coding worth_at s q)) ≡ cond b (at_sort x.sort v) (read_in q.sort (find name_coding worth_at s q))
read_written s x v q true e = (λ i. read_in ((same_decides name_coding q x).0 e i).sort (kept_value name_coding worth_at x (at_sort x.sort v))) ∙ read_kept x.sort v (is_worth x.sort (at_sort x.sort v)) refl
read_written s x v q false e = refl

pub read-write : (s : State) (x : Name) (v : Value) (q : Name) → read (write s x v) q ≡ cond (same_name q x) (at_sort x.sort v) (read s q)
unfolding read write
read-write s x v q =
    ap (read_in q.sort) (find-put name_coding worth_at s x (at_sort x.sort v) q)
    ∙ read_written s x v q (same name_coding q x) refl
    ∙ ap (λ b. cond b (at_sort x.sort v) (read_in q.sort (find name_coding worth_at s q))) (one_test q x)

pub read-none : (x : Name) → read empty_state x ≡ default x.sort
unfolding read empty_state
read-none x = ap (read_in x.sort) (find-no_entries name_coding worth_at x)

-- from what is read back to the entry
rebuilt : Sort → Value → Option Value
rebuilt s v = cond (is_worth s v) (Some v) None

default_unworthy : (s : Sort) → is_worth s (default s) ≡ false
default_unworthy IntSort = refl
default_unworthy BoolSort = refl
default_unworthy RefSort = refl
default_unworthy HeapSort = ap (λ n. not (nat_eq n 0)) len-empty_heap
default_unworthy FieldSort = refl

rebuilds : (s : Sort) (o : Option Value) → ((v : Value) → o ≡ Some v → is_worth s v ≡ true) → o ≡ rebuilt s (read_in s o)
unfolding rebuilt
rebuilds s None h = λ i. cond (sym (default_unworthy s) i) (Some (default s)) None
rebuilds s (Some v) h = λ i. cond (sym (h v refl) i) (Some v) None

pub state_same : (s t : State) → ((x : Name) → read s x ≡ read t x) → s ≡ t
unfolding read rebuilt
state_same s t h = sparse_same name_coding worth_at s t (λ x.
    rebuilds x.sort (find name_coding worth_at s x) (s.kept x)
    ∙ ap (rebuilt x.sort) (h x)
    ∙ sym (rebuilds x.sort (find name_coding worth_at t x) (t.kept x)))

-- what is read has the name's sort
worth_of : (k : Sort) (v : Value) → is_worth k v ≡ true → IsOf k v
worth_of IntSort (IntValue z) e = tt
worth_of BoolSort (BoolValue z) e = tt
worth_of RefSort (RefValue z) e = tt
worth_of HeapSort (HeapValue z) e = tt
worth_of FieldSort (FieldValue z) e = tt
worth_of k v e = absurd (true≢false (sym e))

default_of : (k : Sort) → IsOf k (default k)
default_of IntSort = tt
default_of BoolSort = tt
default_of RefSort = tt
default_of HeapSort = tt
default_of FieldSort = tt

read_in_of : (k : Sort) (o : Option Value) → ((v : Value) → o ≡ Some v → is_worth k v ≡ true) → IsOf k (read_in k o)
read_in_of k None h = default_of k
read_in_of k (Some v) h = worth_of k v (h v refl)

pub read_of : (s : State) (x : Name) → IsOf x.sort (read s x)
unfolding read
read_of s x = read_in_of x.sort (find name_coding worth_at s x) (s.kept x)
