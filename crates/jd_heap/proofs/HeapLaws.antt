-- The laws of heaps.
use Rattle.std.proofs.Common.{◌≡◌, ◌≢◌, ◌<◌, ℕ, zero, suc, Bool, true, false, cond, not, ◌&&◌, ◌||◌, ℤ, pos, negsuc, int_le, Option, Some, None, refl, sym, ap, ◌∙◌, subst, true≢false, arith}
use Rattle.std.proofs.lemmas.Bool.{and_parts}
use Rattle.jd_base.specs.declared.sort.Sort.{Sort}
use Rattle.jd_base.specs.declared.sort.Sort.TheVariants.{Int as IntSort, Bool as BoolSort, Ref as RefSort, Heap as HeapSort, Field as FieldSort}
use Rattle.jd_heap.specs.Codings.{same, same_decides}
use Rattle.jd_heap.specs.References.{Reference, Null, Object, Array, Field, Created, Location, location, is_created_field}
use Rattle.jd_heap.specs.ReferenceCodings.{location_coding, reference_coding}
use Rattle.jd_heap.specs.Heaps.{Entry, IntEntry, BoolEntry, RefEntry, Heap, entry, int_in, bool_in, ref_in, store, create, anon, is_created, is_length}
use Rattle.jd_heap.specs.Allocation.{fresh_object, fresh_array}
use Rattle.jd_heap.specs.Values.{Value, IntValue, BoolValue, RefValue, HeapValue, FieldValue, at_sort, default, select_at, store_value}
use Rattle.jd_heap.specs.HeapLaws.{IsEntrySort, AreHeapsBySelects, SelectOverStore, SelectOverCreate, SelectOverAnon, AllocatesLeast, AreLengthsInRange}
use Rattle.jd_heap.proofs.Entries.{proper_only, entry-store, entry-create, entry-anon, heap_same}
use Rattle.jd_heap.proofs.Fresh.{fresh_is_free, fresh_array_is_free, least_min}

at_same : (l : Location) → same location_coding l l ≡ true
at_same l = (same_decides location_coding l l).1 refl

not_same : (l q : Location) → l ≢ q → (b : Bool) → same location_coding l q ≡ b → b ≡ false
not_same l q n false e = refl
not_same l q n true e = absurd (n ((same_decides location_coding l q).0 e))

pub entry_here : (h : Heap) (o : Reference) (f : Field) (e : Entry) → is_created_field f ≡ false → entry (store h o f e) (location o f) ≡ proper_only (location o f) e
entry_here h o f e n =
    entry-store h o f e (location o f)
    ∙ ap (λ b. cond b (entry h (location o f)) (cond (same location_coding (location o f) (location o f)) (proper_only (location o f) e) (entry h (location o f)))) n
    ∙ ap (λ b. cond b (proper_only (location o f) e) (entry h (location o f))) (at_same (location o f))

away : (b : Bool) (x y : Option Entry) (c : Bool) → c ≡ false → cond b y (cond c x y) ≡ y
away true x y c e = refl
away false x y c e = ap (λ b. cond b x y) e

pub entry_away : (h : Heap) (o : Reference) (f : Field) (e : Entry) (q : Location) → q ≢ location o f → entry (store h o f e) q ≡ entry h q
entry_away h o f e q n = entry-store h o f e q ∙ away (is_created_field f) (proper_only (location o f) e) (entry h q) (same location_coding q (location o f)) (not_same q (location o f) n (same location_coding q (location o f)) refl)

int_back : (l : Location) (z : ℤ) → int_in (proper_only l (IntEntry z)) ≡ z
int_back l (pos zero) = refl
int_back l (pos (suc n)) = refl
int_back l (negsuc n) = refl

bool_back : (l : Location) (b : Bool) → bool_in (proper_only l (BoolEntry b)) ≡ b
bool_back l true = refl
bool_back l false = refl

ref_back : (l : Location) (r : Reference) → ref_in (proper_only l (RefEntry r)) ≡ r
ref_back l Null = refl
ref_back l (Object c n) = refl
ref_back l (Array k n) = refl

store_away : (h : Heap) (o : Reference) (f : Field) (v : Value) (q : Location) → q ≢ location o f → entry (store_value h o f v) q ≡ entry h q
store_away h o f (IntValue z) q n = entry_away h o f (IntEntry z) q n
store_away h o f (BoolValue b) q n = entry_away h o f (BoolEntry b) q n
store_away h o f (RefValue r) q n = entry_away h o f (RefEntry r) q n
store_away h o f (HeapValue g) q n = entry_away h o f (RefEntry Null) q n
store_away h o f (FieldValue g) q n = entry_away h o f (RefEntry Null) q n

select_away : (k : Sort) (h : Heap) (o : Reference) (f : Field) (v : Value) (p : Reference) (e : Field) → location p e ≢ location o f → select_at k (store_value h o f v) p e ≡ select_at k h p e
select_away IntSort h o f v p e n = ap (λ x. IntValue (int_in x)) (store_away h o f v (location p e) n)
select_away BoolSort h o f v p e n = ap (λ x. BoolValue (bool_in x)) (store_away h o f v (location p e) n)
select_away RefSort h o f v p e n = ap (λ x. RefValue (ref_in x)) (store_away h o f v (location p e) n)
select_away HeapSort h o f v p e n = refl
select_away FieldSort h o f v p e n = refl

int_of_bool : (l : Location) (b : Bool) → int_in (proper_only l (BoolEntry b)) ≡ pos 0
int_of_bool l true = refl
int_of_bool l false = refl

int_of_ref : (l : Location) (r : Reference) → int_in (proper_only l (RefEntry r)) ≡ pos 0
int_of_ref l Null = refl
int_of_ref l (Object c n) = refl
int_of_ref l (Array k n) = refl

bool_of_int : (l : Location) (z : ℤ) → bool_in (proper_only l (IntEntry z)) ≡ false
bool_of_int l (pos zero) = refl
bool_of_int l (pos (suc n)) = refl
bool_of_int l (negsuc n) = refl

bool_of_ref : (l : Location) (r : Reference) → bool_in (proper_only l (RefEntry r)) ≡ false
bool_of_ref l Null = refl
bool_of_ref l (Object c n) = refl
bool_of_ref l (Array k n) = refl

ref_of_int : (l : Location) (z : ℤ) → ref_in (proper_only l (IntEntry z)) ≡ Null
ref_of_int l (pos zero) = refl
ref_of_int l (pos (suc n)) = refl
ref_of_int l (negsuc n) = refl

ref_of_bool : (l : Location) (b : Bool) → ref_in (proper_only l (BoolEntry b)) ≡ Null
ref_of_bool l true = refl
ref_of_bool l false = refl

-- what an entry of one value reads at a sort
read_back : (s : Sort) → IsEntrySort s → (h : Heap) (o : Reference) (f : Field) (v : Value) → is_created_field f ≡ false → select_at s (store_value h o f v) o f ≡ at_sort s v
read_back IntSort i h o f (IntValue z) n = ap (λ e. IntValue (int_in e)) (entry_here h o f (IntEntry z) n) ∙ ap IntValue (int_back (location o f) z)
read_back IntSort i h o f (BoolValue b) n = ap (λ e. IntValue (int_in e)) (entry_here h o f (BoolEntry b) n) ∙ ap IntValue (int_of_bool (location o f) b)
read_back IntSort i h o f (RefValue r) n = ap (λ e. IntValue (int_in e)) (entry_here h o f (RefEntry r) n) ∙ ap IntValue (int_of_ref (location o f) r)
read_back IntSort i h o f (HeapValue g) n = ap (λ e. IntValue (int_in e)) (entry_here h o f (RefEntry Null) n)
read_back IntSort i h o f (FieldValue g) n = ap (λ e. IntValue (int_in e)) (entry_here h o f (RefEntry Null) n)
read_back BoolSort i h o f (BoolValue b) n = ap (λ e. BoolValue (bool_in e)) (entry_here h o f (BoolEntry b) n) ∙ ap BoolValue (bool_back (location o f) b)
read_back BoolSort i h o f (IntValue z) n = ap (λ e. BoolValue (bool_in e)) (entry_here h o f (IntEntry z) n) ∙ ap BoolValue (bool_of_int (location o f) z)
read_back BoolSort i h o f (RefValue r) n = ap (λ e. BoolValue (bool_in e)) (entry_here h o f (RefEntry r) n) ∙ ap BoolValue (bool_of_ref (location o f) r)
read_back BoolSort i h o f (HeapValue g) n = ap (λ e. BoolValue (bool_in e)) (entry_here h o f (RefEntry Null) n)
read_back BoolSort i h o f (FieldValue g) n = ap (λ e. BoolValue (bool_in e)) (entry_here h o f (RefEntry Null) n)
read_back RefSort i h o f (RefValue r) n = ap (λ e. RefValue (ref_in e)) (entry_here h o f (RefEntry r) n) ∙ ap RefValue (ref_back (location o f) r)
read_back RefSort i h o f (IntValue z) n = ap (λ e. RefValue (ref_in e)) (entry_here h o f (IntEntry z) n) ∙ ap RefValue (ref_of_int (location o f) z)
read_back RefSort i h o f (BoolValue b) n = ap (λ e. RefValue (ref_in e)) (entry_here h o f (BoolEntry b) n) ∙ ap RefValue (ref_of_bool (location o f) b)
read_back RefSort i h o f (HeapValue g) n = ap (λ e. RefValue (ref_in e)) (entry_here h o f (RefEntry Null) n)
read_back RefSort i h o f (FieldValue g) n = ap (λ e. RefValue (ref_in e)) (entry_here h o f (RefEntry Null) n)
read_back HeapSort i h o f v n = absurd i
read_back FieldSort i h o f v n = absurd i

no_store : (h : Heap) (o : Reference) (v : Value) → store_value h o Created v ≡ h
unfolding store
no_store h o (IntValue z) = refl
no_store h o (BoolValue b) = refl
no_store h o (RefValue r) = refl
no_store h o (HeapValue g) = refl
no_store h o (FieldValue g) = refl

by_entries : (s : Sort) (h k : Heap) (o p : Reference) (f e : Field) → entry h (location o f) ≡ entry k (location p e) → select_at s h o f ≡ select_at s k p e
by_entries IntSort h k o p f e q = ap (λ x. IntValue (int_in x)) q
by_entries BoolSort h k o p f e q = ap (λ x. BoolValue (bool_in x)) q
by_entries RefSort h k o p f e q = ap (λ x. RefValue (ref_in x)) q
by_entries HeapSort h k o p f e q = refl
by_entries FieldSort h k o p f e q = refl

no_entry : (s : Sort) (h : Heap) (o : Reference) (f : Field) → entry h (location o f) ≡ None → select_at s h o f ≡ default s
no_entry IntSort h o f q = ap (λ x. IntValue (int_in x)) q
no_entry BoolSort h o f q = ap (λ x. BoolValue (bool_in x)) q
no_entry RefSort h o f q = ap (λ x. RefValue (ref_in x)) q
no_entry HeapSort h o f q = refl
no_entry FieldSort h o f q = refl

same_reference : (o : Reference) → same reference_coding o o ≡ true
same_reference o = (same_decides reference_coding o o).1 refl

other_reference : (p o : Reference) → ¬ (p ≡ o) → (b : Bool) → same reference_coding p o ≡ b → b ≡ false
other_reference p o n false e = refl
other_reference p o n true e = absurd (n ((same_decides reference_coding p o).0 e))

-- a location of `created` is none of another field
not_created : (p o : Reference) (f : Field) → is_created_field f ≡ false → (b : Bool) → same location_coding (location p f) (location o Created) ≡ b → b ≡ false
not_created p o f n false e = refl
not_created p o f n true e = absurd (true≢false (sym (ap (λ l. is_created_field l.field) ((same_decides location_coding (location p f) (location o Created)).0 e)) ∙ n))

other_location : (p o : Reference) (f : Field) → ¬ (p ≡ o) → (b : Bool) → same location_coding (location p f) (location o Created) ≡ b → b ≡ false
other_location p o f n false e = refl
other_location p o f n true e = absurd (n (ap (λ l. l.at) ((same_decides location_coding (location p f) (location o Created)).0 e)))

entry_created : (h : Heap) (o : Reference) → entry (create h o) (location o Created) ≡ Some (BoolEntry true)
entry_created h o =
    entry-create h o (location o Created)
    ∙ ap (λ b. cond b (Some (BoolEntry true)) (cond (same reference_coding o o) None (entry h (location o Created)))) (at_same (location o Created))

entry_blank : (h : Heap) (o : Reference) (f : Field) → is_created_field f ≡ false → entry (create h o) (location o f) ≡ None
entry_blank h o f n =
    entry-create h o (location o f)
    ∙ ap (λ b. cond b (Some (BoolEntry true)) (cond (same reference_coding o o) None (entry h (location o f)))) (not_created o o f n (same location_coding (location o f) (location o Created)) refl)
    ∙ ap (λ b. cond b None (entry h (location o f))) (same_reference o)

entry_other : (h : Heap) (o p : Reference) (f : Field) → ¬ (p ≡ o) → entry (create h o) (location p f) ≡ entry h (location p f)
entry_other h o p f n =
    entry-create h o (location p f)
    ∙ ap (λ b. cond b (Some (BoolEntry true)) (cond (same reference_coding p o) None (entry h (location p f)))) (other_location p o f n (same location_coding (location p f) (location o Created)) refl)
    ∙ ap (λ b. cond b None (entry h (location p f))) (other_reference p o n (same reference_coding p o) refl)

number_of : Reference → ℕ
number_of Null = 0
number_of (Object c n) = n
number_of (Array l n) = n

object_least : (h : Heap) (c n m : ℕ) → fresh_object h c ≡ Object c n → m < n → is_created h (Object c m) ≡ true
unfolding fresh_object number_of
object_least h c n m e lt = least_min _ (λ k. is_created h (Object c k)) 0 m (omega arith) (subst (λ k. m < k) (sym (ap number_of e)) lt)

array_least : (h : Heap) (l n m : ℕ) → fresh_array h l ≡ Array l n → m < n → is_created h (Array l m) ≡ true
unfolding fresh_array number_of
array_least h l n m e lt = least_min _ (λ k. is_created h (Array l k)) 0 m (omega arith) (subst (λ k. m < k) (sym (ap number_of e)) lt)

pub heaps_by_selects : AreHeapsBySelects
heaps_by_selects h k same = heap_same h k (λ o f. (same o f).0) (λ o f. (same o f).1) (λ o f. (same o f).2)

pub select_over_store : SelectOverStore
select_over_store = record {
  there = read_back;
  elsewhere = λ s h o p f e v n. select_away s h o f v p e n;
  at_created = no_store;
}

pub select_over_create : SelectOverCreate
select_over_create = record {
  created = λ h o. ap bool_in (entry_created h o);
  fields = λ s h o f n. no_entry s (create h o) o f (entry_blank h o f n);
  others = λ s h o p f n. by_entries s (create h o) h p p f f (entry_other h o p f n);
}

-- which heap `anon` reads, by the three tests
renewed_by : (h k : Heap) (L : Location → Bool) (o : Reference) (f : Field) (l c r : Bool) → L (location o f) ≡ l → is_created_field f ≡ c → is_created h o ≡ r → entry (anon h L k) (location o f) ≡ cond ((l && not c) || not r) (entry k (location o f)) (entry h (location o f))
renewed_by h k L o f l c r p q e =
    entry-anon h L k (location o f)
    ∙ (λ i. cond ((p i && not (q i)) || not (e i)) (entry k (location o f)) (entry h (location o f)))

always : (b : Bool) (x y : Option Entry) → cond (b || true) x y ≡ x
always true x y = refl
always false x y = refl

same_where : (b : Bool) (x y : Option Entry) → cond ((b && not true) || not true) x y ≡ y
same_where true x y = refl
same_where false x y = refl

pub select_over_anon : SelectOverAnon
select_over_anon = record {
  inside = λ s h k L o f p q. by_entries s (anon h L k) k o o f f (renewed_by h k L o f true false (is_created h o) p q refl);
  fresh = λ s h k L o f e. by_entries s (anon h L k) k o o f f (renewed_by h k L o f (L (location o f)) (is_created_field f) false refl refl e ∙ always (L (location o f) && not (is_created_field f)) (entry k (location o f)) (entry h (location o f)));
  outside = λ s h k L o f p e. by_entries s (anon h L k) h o o f f (renewed_by h k L o f false (is_created_field f) true p refl e);
  created = λ h k L o e. ap bool_in (renewed_by h k L o Created (L (location o Created)) true true refl refl e ∙ same_where (L (location o Created)) (entry k (location o Created)) (entry h (location o Created))) ∙ e;
}

pub allocates_least : AllocatesLeast
allocates_least = record {
  object_free = fresh_is_free;
  array_free = fresh_array_is_free;
  object_least = object_least;
  array_least = array_least;
}

pub lengths_in_range : AreLengthsInRange
lengths_in_range Null = (refl, refl)
lengths_in_range (Object c n) = (refl, refl)
lengths_in_range (Array l n) = by (is_length (pos l)) refl
  where
    by : (b : Bool) → is_length (pos l) ≡ b → (int_le (pos 0) (cond b (pos l) (pos 0)) ≡ true) × (int_le (cond b (pos l) (pos 0)) (pos 2147483647) ≡ true)
    by true e = and_parts (int_le (pos 0) (pos l)) (int_le (pos l) (pos 2147483647)) e
    by false e = (refl, refl)
