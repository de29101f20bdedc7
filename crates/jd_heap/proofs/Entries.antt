-- Each operation on heaps by its entries, and heaps by their selects.
use Rattle.std.specs.Prelude.{◌≡◌, zero, suc, Bool, true, false, cond, ℤ, pos, negsuc, Option, Some, None}
use Rattle.std.proofs.Common.{refl, sym, ap, ◌∙◌, true≢false}
use Rattle.std.specs.FinMap.{len}
use Rattle.jd_heap.specs.Codings.{same}
use Rattle.jd_heap.specs.References.{Reference, Null, Object, Array, Field, Named, Created, Index, Location, location, is_null, is_created_field}
use Rattle.jd_heap.specs.ReferenceCodings.{location_coding, reference_coding}
use Rattle.jd_heap.specs.SparseMaps.{sparse_same, find-no_entries, len-no_entries, find-put, pick, find-pick}
use Rattle.jd_heap.specs.Heaps.{Entry, IntEntry, BoolEntry, RefEntry, Heap, entry, is_zero, is_proper, int_in, bool_in, ref_in, select_int, select_bool, select_ref, empty_heap, store, create, is_renewed, anon}

pub entry-empty : (l : Location) → entry empty_heap l ≡ None
unfolding empty_heap
entry-empty l = find-no_entries location_coding is_proper l

pub len-empty_heap : len empty_heap.map ≡ 0
unfolding empty_heap
len-empty_heap = len-no_entries location_coding is_proper

abbrev pub proper_only : Location → Entry → Option Entry
proper_only l e = cond (is_proper l e) (Some e) None

pub entry-store : (h : Heap) (o : Reference) (f : Field) (e : Entry) (q : Location) → entry (store h o f e) q ≡ cond (is_created_field f) (entry h q) (cond (same location_coding q (location o f)) (proper_only (location o f) e) (entry h q))
unfolding store
entry-store h o (Named f) e q = find-put location_coding is_proper h (location o (Named f)) e q
entry-store h o Created e q = refl
entry-store h o (Index f) e q = find-put location_coding is_proper h (location o (Index f)) e q

pub entry-create : (h : Heap) (o : Reference) (q : Location) → entry (create h o) q ≡ cond (same location_coding q (location o Created)) (Some (BoolEntry true)) (cond (same reference_coding q.at o) None (entry h q))
unfolding create
entry-create h o q =
    find-put location_coding is_proper (pick location_coding is_proper (λ l. same reference_coding l.at o) empty_heap h) (location o Created) (BoolEntry true) q
    ∙ ap (cond (same location_coding q (location o Created)) (Some (BoolEntry true))) (find-pick location_coding is_proper (λ l. same reference_coding l.at o) empty_heap h q ∙ (λ i. cond (same reference_coding q.at o) (entry-empty q i) (entry h q)))

pub entry-anon : (h : Heap) (L : Location → Bool) (g : Heap) (q : Location) → entry (anon h L g) q ≡ cond (is_renewed h L q) (entry g q) (entry h q)
unfolding anon
entry-anon h L g q = find-pick location_coding is_proper (is_renewed h L) g h q

-- an entry from what the three selects give
abbrev rebuilt : ℤ → Bool → Reference → Option Entry
rebuilt z b r = cond (is_zero z) (cond b (Some (BoolEntry true)) (cond (is_null r) None (Some (RefEntry r)))) (Some (IntEntry z))

rebuilds : (l : Location) (o : Option Entry) → ((e : Entry) → o ≡ Some e → is_proper l e ≡ true) → o ≡ rebuilt (int_in o) (bool_in o) (ref_in o)
rebuilds l None h = refl
rebuilds l (Some (IntEntry (pos zero))) h = absurd (true≢false (sym (h (IntEntry (pos zero)) refl)))
rebuilds l (Some (IntEntry (pos (suc n)))) h = refl
rebuilds l (Some (IntEntry (negsuc n))) h = refl
rebuilds l (Some (BoolEntry true)) h = refl
rebuilds l (Some (BoolEntry false)) h = absurd (true≢false (sym (h (BoolEntry false) refl)))
rebuilds l (Some (RefEntry Null)) h = absurd (true≢false (sym (h (RefEntry Null) refl)))
rebuilds l (Some (RefEntry (Object c n))) h = refl
rebuilds l (Some (RefEntry (Array c n))) h = refl

pub heap_same : (h g : Heap) → ((o : Reference) (f : Field) → select_int h o f ≡ select_int g o f) → ((o : Reference) (f : Field) → select_bool h o f ≡ select_bool g o f) → ((o : Reference) (f : Field) → select_ref h o f ≡ select_ref g o f) → h ≡ g
heap_same h g ints bools refs = sparse_same location_coding is_proper h g (λ l.
    rebuilds l (entry h l) (h.kept l)
    ∙ (λ i. rebuilt (ints l.at l.field i) (bools l.at l.field i) (refs l.at l.field i))
    ∙ sym (rebuilds l (entry g l) (g.kept l)))
