-- What is allocated was free.
use Rattle.std.proofs.Common.{◌≡◌, ℕ, zero, suc, ◌-◌, ◌≤◌, ◌<◌, Bool, true, false, cond, Option, Some, None, refl, sym, ap, ◌∙◌, subst, true≢false, arith, is_some, ⊎_elim}
use Rattle.std.proofs.lemmas.Bool.{cases_lt}
use Rattle.std.specs.FinMap.{len, get, get-empty, empty_of_len}
use Rattle.jd_heap.specs.Allocation.{least_free, fresh_object, fresh_array}
use Rattle.jd_heap.specs.Codings.{order, same, same_decides}
use Rattle.jd_heap.specs.Heaps.{Heap, Entry, BoolEntry, entry, is_created, is_proper, bool_in}
use Rattle.jd_heap.specs.ReferenceCodings.{location_coding}
use Rattle.jd_heap.specs.References.{location, Reference, Null, Object, Array, Created, Location}
use Rattle.jd_heap.specs.SparseMaps.{put, find-put, len-put_out}

-- the search gives at least its start, and reads no_entries below it
least_above : (f : ℕ) (t : ℕ → Bool) (n : ℕ) → n ≤ least_free f t n
least_above zero t n = omega arith
least_above (suc f) t n = elim (t n) as (λ b. n ≤ cond b (least_free f t (suc n)) n) [ true ↦ omega (arith, least_above f t (suc n)) | false ↦ omega arith ]

least_alike : (f : ℕ) (t u : ℕ → Bool) (n : ℕ) → ((m : ℕ) → n ≤ m → t m ≡ u m) → least_free f t n ≡ least_free f u n
least_alike zero t u n h = refl
least_alike (suc f) t u n h = λ i. cond (h n (omega arith) i) (least_alike f t u (suc n) (λ m le. h m (omega arith)) i) n

abbrev number_of : Reference → ℕ
number_of Null = 0
number_of (Object c n) = n
number_of (Array l n) = n

-- references that differ by their numbers: the objects of a class, or the arrays of a length
module _ (r : ℕ → Reference) (numbered : (n : ℕ) → number_of (r n) ≡ n) where
  abbrev created_at : ℕ → Location
  created_at n = location (r n) Created

  -- the heap without that object's `created`
  without : Heap → ℕ → Heap
  without h n = put location_coding is_proper h (created_at n) (BoolEntry false)

  other_number : (m n : ℕ) → suc n ≤ m → (b : Bool) → same location_coding (created_at m) (created_at n) ≡ b → b ≡ false
  other_number m n lt false e = refl
  other_number m n lt true e = let p : m ≡ n = sym (numbered m) ∙ ap (λ l. number_of l.at) ((same_decides location_coding (created_at m) (created_at n)).0 e) ∙ numbered n in absurd (omega arith)

  still_created : (h : Heap) (n m : ℕ) → suc n ≤ m → is_created h (r m) ≡ is_created (without h n) (r m)
  unfolding without
  still_created h n m lt = sym (ap bool_in (find-put location_coding is_proper h (created_at n) (BoolEntry false) (created_at m)
      ∙ ap (λ b. cond b None (entry h (created_at m))) (other_number m n lt (same location_coding (created_at m) (created_at n)) refl)))

  there : (o : Option Entry) → bool_in o ≡ true → is_some o ≡ true
  there None e = absurd (true≢false (sym e))
  there (Some x) e = refl

  one_less : (h : Heap) (n : ℕ) → is_created h (r n) ≡ true → len (without h n).map ≡ len h.map - 1
  unfolding without
  one_less h n e = len-put_out location_coding is_proper h (created_at n) (BoolEntry false) refl (there (entry h (created_at n)) e)

  positive : (h : Heap) (n : ℕ) → is_created h (r n) ≡ true → 1 ≤ len h.map
  positive h n e = by (len h.map) refl
    where
      by : (k : ℕ) → len h.map ≡ k → 1 ≤ k
      by zero z = absurd (true≢false (sym e ∙ ap (λ m. bool_in (get m (created_at n))) (empty_of_len h.map z) ∙ ap bool_in (get-empty (order location_coding) (created_at n))))
      by (suc k) z = omega arith

  free_from : (f : ℕ) (h : Heap) (n : ℕ) → len h.map ≤ f → (b : Bool) → is_created h (r n) ≡ b → is_created h (r (least_free f (λ m. is_created h (r m)) n)) ≡ false
  free_from zero h n le true e = absurd (omega (arith, positive h n e))
  free_from zero h n le false e = e
  free_from (suc f) h n le false e = ap (λ b. is_created h (r (cond b (least_free f (λ m. is_created h (r m)) (suc n)) n))) e ∙ e
  free_from (suc f) h n le true e =
      let k = least_free f (λ m. is_created h (r m)) (suc n) in
      let same_k : k ≡ least_free f (λ m. is_created (without h n) (r m)) (suc n) = least_alike f _ _ (suc n) (λ m lt. still_created h n m lt) in
      let fits : len (without h n).map ≤ f = omega (arith, one_less h n e) in
      ap (λ b. is_created h (r (cond b k n))) e
      ∙ still_created h n k (least_above f (λ m. is_created h (r m)) (suc n))
      ∙ ap (λ m. is_created (without h n) (r m)) same_k
      ∙ free_from f (without h n) (suc n) fits (is_created (without h n) (r (suc n))) refl

pub fresh_is_free : (h : Heap) (c : ℕ) → is_created h (fresh_object h c) ≡ false
unfolding fresh_object
fresh_is_free h c = free_from (λ n. Object c n) (λ n. refl) (len h.map) h 0 (omega arith) (is_created h (Object c 0)) refl

pub fresh_array_is_free : (h : Heap) (l : ℕ) → is_created h (fresh_array h l) ≡ false
unfolding fresh_array
fresh_array_is_free h l = free_from (λ n. Array l n) (λ n. refl) (len h.map) h 0 (omega arith) (is_created h (Array l 0)) refl

-- and each smaller number was taken
pub least_min : (f : ℕ) (t : ℕ → Bool) (n m : ℕ) → n ≤ m → m < least_free f t n → t m ≡ true
least_min zero t n m le lt = absurd (omega arith)
least_min (suc f) t n m le lt = by (λ big less. least_min f t (suc n) m big less) (t n) refl
  where
    by : (suc n ≤ m → m < least_free f t (suc n) → t m ≡ true) → (b : Bool) → t n ≡ b → t m ≡ true
    by rest true e =
        let longer : least_free (suc f) t n ≡ least_free f t (suc n) = ap (λ c. cond c (least_free f t (suc n)) n) e in
        let lt' : m < least_free f t (suc n) = omega arith in
        ⊎_elim (λ (small : m < suc n). let q : n ≡ m = omega arith in subst (λ k. t k ≡ true) q e)
        (λ (big : suc n ≤ m). rest big lt')
        (cases_lt m (suc n))
    by rest false e = let stop : least_free (suc f) t n ≡ n = ap (λ c. cond c (least_free f t (suc n)) n) e in absurd (omega arith)
