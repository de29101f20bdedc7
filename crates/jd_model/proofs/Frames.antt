-- A heap that differs from an older one only within locations is the older one renewed there.
use Rattle.std.proofs.Common.{◌≡◌, Bool, true, false, cond, not, ◌&&◌, ◌||◌, Option, Some, None, refl, sym, ap, ◌∙◌, true≢false}
use Rattle.jd_heap.proofs.Entries.{entry-anon, heap_same}
use Rattle.jd_heap.specs.Heaps.{Heap, Entry, IntEntry, BoolEntry, RefEntry, entry, is_created, is_renewed, bool_in, int_in, ref_in, anon, select_int, select_bool, select_ref, SameAt}
use Rattle.jd_heap.specs.References.{Reference, Field, Named, Created, Index, Location, location, is_created_field}
use Rattle.jd_model.specs.Bodies.{Grows}

only_bool : (a b : Option Entry) → bool_in a ≡ true → bool_in b ≡ true → (int_in a ≡ int_in b) × (bool_in a ≡ bool_in b) × (ref_in a ≡ ref_in b)
only_bool (Some (BoolEntry x)) (Some (BoolEntry y)) p q = (refl, p ∙ sym q, refl)
only_bool a (Some (IntEntry y)) p q = absurd (true≢false (sym q))
only_bool a (Some (RefEntry y)) p q = absurd (true≢false (sym q))
only_bool a None p q = absurd (true≢false (sym q))
only_bool (Some (IntEntry x)) b p q = absurd (true≢false (sym p))
only_bool (Some (RefEntry x)) b p q = absurd (true≢false (sym p))
only_bool None b p q = absurd (true≢false (sym p))

-- where the renewed heap is not read, the old one agrees
kept_at : (h g : Heap) (L : Location → Bool) → Grows h g → ((o : Reference) (f : Field) → L (location o f) ≡ false → is_created h o ≡ true → SameAt h g o f) → (o : Reference) (f : Field) (l c : Bool) → L (location o f) ≡ l → is_created h o ≡ c → (l && not (is_created_field f)) || not c ≡ false → SameAt h g o f
kept_at h g L grows frame o f l false p q e = absurd (true≢false (sym (ap (λ x. x) (or_true (l && not (is_created_field f)))) ∙ e))
  where
    or_true : (x : Bool) → x || true ≡ true
    or_true true = refl
    or_true false = refl
kept_at h g L grows frame o f false true p q e = frame o f p q
kept_at h g L grows frame o Created true true p q e = only_bool (entry h (location o Created)) (entry g (location o Created)) q (grows o q)
kept_at h g L grows frame o (Named n) true true p q e = absurd (true≢false e)
kept_at h g L grows frame o (Index n) true true p q e = absurd (true≢false e)

by_choice : (h g : Heap) (o : Reference) (f : Field) (b : Bool) → (b ≡ false → SameAt h g o f) → (int_in (cond b (entry g (location o f)) (entry h (location o f))) ≡ select_int g o f) × (bool_in (cond b (entry g (location o f)) (entry h (location o f))) ≡ select_bool g o f) × (ref_in (cond b (entry g (location o f)) (entry h (location o f))) ≡ select_ref g o f)
by_choice h g o f true k = (refl, refl, refl)
by_choice h g o f false k = k refl

pub anon_frame : (h g : Heap) (L : Location → Bool) → Grows h g → ((o : Reference) (f : Field) → L (location o f) ≡ false → is_created h o ≡ true → SameAt h g o f) → anon h L g ≡ g
anon_frame h g L grows frame = heap_same (anon h L g) g
    (λ o f. ap int_in (entry-anon h L g (location o f)) ∙ (at o f).0)
    (λ o f. ap bool_in (entry-anon h L g (location o f)) ∙ (at o f).1)
    (λ o f. ap ref_in (entry-anon h L g (location o f)) ∙ (at o f).2)
  where
    at : (o : Reference) (f : Field) → (int_in (cond (is_renewed h L (location o f)) (entry g (location o f)) (entry h (location o f))) ≡ select_int g o f) × (bool_in (cond (is_renewed h L (location o f)) (entry g (location o f)) (entry h (location o f))) ≡ select_bool g o f) × (ref_in (cond (is_renewed h L (location o f)) (entry g (location o f)) (entry h (location o f))) ≡ select_ref g o f)
    at o f = by_choice h g o f (is_renewed h L (location o f)) (λ e. kept_at h g L grows frame o f (L (location o f)) (is_created h o) refl refl e)
