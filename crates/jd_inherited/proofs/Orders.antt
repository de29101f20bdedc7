-- Lists of nodes that stay below the count.
use Rattle.std.proofs.Common.{◌≡◌, refl, ℕ, ◌+◌, ◌<◌, List, [], ◌∷◌, ◌++◌, Option, Some, None, length, get_or, slice_set, replicate, zero, suc, map, Contains, IsPermutation, sym, ap, subst, ◌∙◌, inl, inr, arith}
use Rattle.std.proofs.lemmas.Bool.{cases_eq, cases_lt}
use Rattle.std.proofs.lemmas.List.{get_or-set_same, get_or-set_other, get_or_append_left, get_or_push, get_or-replicate, length-set, length-append, length-replicate}
use Rattle.std.proofs.lemmas.List.{get_or_default, get_or-map, length-map, map-append}
use Rattle.std.proofs.lemmas.List.FromFn.{get_or-range_with_len, length-range_with_len}
use Rattle.std.proofs.lemmas.List.Sorted.{All-permutation, Contains-permutation, IsPermutation-map}
use Rattle.std.specs.List.{All, range_with_len}
use Rattle.std.proofs.lemmas.Option.{slice_get-get_or}
use Rattle.jd_ancestry.specs.Ancestors.{AreNodes}
use Rattle.jd_inherited.specs.Orders.{IsBelow, AreAllBelow, IsOrder}

abbrev pub index_at : List (ℕ × ℕ) → ℕ → ℕ
index_at order q = (get_or order q (record { 0 = 0; 1 = 0 })).1

pub record AreListed (count done : ℕ) (firsts nexts : List (Option ℕ)) : Type 0 where
  pub firsts_below : AreAllBelow count firsts
  pub nexts_below : AreAllBelow count nexts
  pub first_count : length firsts ≡ count + 1
  pub next_count : length nexts ≡ done

none_is_below : (count : ℕ) (o : Option ℕ) → o ≡ None → IsBelow count o
none_is_below count o e n f = absurd (no_some n (sym e ∙ f))
  where
    no_some : (n : ℕ) → None ≡ Some n → ⊥
    no_some n e = cc

some_is_below : (count n : ℕ) (o : Option ℕ) → o ≡ Some n → n < count → IsBelow count o
some_is_below count n o e lt m f = subst (λ k. k < count) (same n m (sym e ∙ f)) lt
  where
    same : (n m : ℕ) → Some n ≡ Some m → n ≡ m
    same n m e = cc

pub none_listed : (count : ℕ) (firsts : List (Option ℕ)) → firsts ≡ replicate (count + 1) None → AreListed count 0 firsts []
none_listed count firsts e = record {
  firsts_below = λ i lt. none_is_below count _ (ap (λ (l : List (Option ℕ)). get_or l i None) e ∙ get_or-replicate (count + 1) i None None (inside i lt));
  nexts_below = λ i lt. absurd (omega arith);
  first_count = ap length e ∙ length-replicate (count + 1) None;
  next_count = refl;
}
  where
    inside : (i : ℕ) → i < length firsts → i < count + 1
    inside i lt =
        let none : Option ℕ = None in
        omega (arith, ap length e, length-replicate (count + 1) none)

pub one_more_listed : (count node list : ℕ) (firsts nexts : List (Option ℕ)) → node < count → list < count + 1 → AreListed count node firsts nexts
    → AreListed count (node + 1) (slice_set firsts list (Some node)) (nexts ++ get_or firsts list None ∷ [])
one_more_listed count node list firsts nexts lt inside h = record {
  firsts_below = λ i within.
      elim (cases_eq i list) [
        | inl same ↦ some_is_below count node _ (ap (λ k. get_or (slice_set firsts list (Some node)) k None) same ∙ get_or-set_same firsts list (Some node) None (omega (arith, h.first_count))) lt
        | inr other ↦ subst (IsBelow count) (sym (get_or-set_other firsts list i (Some node) None other)) (h.firsts_below i (omega (arith, length-set firsts list (Some node))))
      ];
  nexts_below = λ i within.
      elim (cases_lt i (length nexts)) [
        | inl earlier ↦ subst (IsBelow count) (sym (get_or_append_left nexts (get_or firsts list None ∷ []) None i earlier)) (h.nexts_below i earlier)
        | inr last ↦ subst (IsBelow count) (sym (get_or_push nexts (get_or firsts list None) None i (omega (arith, length-append nexts (get_or firsts list None ∷ []))))) (h.firsts_below list (omega (arith, h.first_count)))
      ];
  first_count = length-set firsts list (Some node) ∙ h.first_count;
  next_count = length-append nexts (get_or firsts list None ∷ []) ∙ ap (λ n. n + 1) h.next_count;
}

-- one index more in the order
range_more : (a n : ℕ) → range_with_len a (suc n) ≡ range_with_len a n ++ (a + n) ∷ []
range_more a zero = ap (λ x. x ∷ []) (let e : a ≡ a + 0 = omega arith in e)
range_more a (suc n) =
    ap (λ l. a ∷ l) (range_more (a + 1) n ∙ ap (λ x. range_with_len (a + 1) n ++ x ∷ []) (let e : a + 1 + n ≡ a + suc n = omega arith in e))

pub one_more_index : (order : List (ℕ × ℕ)) (i : ℕ) (x : ℕ × ℕ) → x.1 ≡ i → map (λ p. p.1) order ≡ range_with_len 0 i → map (λ p. p.1) (order ++ x ∷ []) ≡ range_with_len 0 (i + 1)
one_more_index order i x e h =
    map-append (λ p. p.1) order (x ∷ []) ∙ ap (λ l. l ++ x.1 ∷ []) h ∙ ap (λ y. range_with_len 0 i ++ y ∷ []) (e ∙ (let f : i ≡ 0 + i = omega arith in f))
    ∙ sym (range_more 0 i) ∙ ap (range_with_len 0) (let f : suc i ≡ i + 1 = omega arith in f)

pub in_some_order : (order sorted : List (ℕ × ℕ)) (n : ℕ) → map (λ p. p.1) order ≡ range_with_len 0 n → IsPermutation order sorted → IsOrder n sorted
in_some_order order sorted n e h = subst (λ (l : List ℕ). IsPermutation l (map (λ p. p.1) sorted)) e (IsPermutation-map (λ p. p.1) order sorted h)

abbrev second : ℕ × ℕ → ℕ
second p = p.1

-- each index below the count stands in an order
pub in_order : (order : List (ℕ × ℕ)) (n i : ℕ) → IsOrder n order → i < n → (q : ℕ) × ((q < length order) × (index_at order q ≡ i))
in_order order n i h lt =
    let range : Contains (range_with_len 0 n) i = (i, omega (arith, length-range_with_len 0 n), get_or-range_with_len 0 n i i lt ∙ (let e : 0 + i ≡ i = omega arith in e)) in
    let found = Contains-permutation (range_with_len 0 n) (map (λ p. p.1) order) i h range in
    let inside : found.0 < length order = omega (arith, found.1, length-map order second) in
    (found.0, (inside, sym (get_or-map (λ p. p.1) order found.0 (record { 0 = 0; 1 = 0 }) i inside) ∙ found.2))

-- and no other number does
pub below_count : (order : List (ℕ × ℕ)) (n q : ℕ) → IsOrder n order → q < length order → index_at order q < n
below_count order n q h lt =
    let here : q < length (map (λ (p : ℕ × ℕ). p.1) order) = omega (arith, length-map order second) in
    let all : All (λ x. x < n) (range_with_len 0 n) = λ k d inside. omega (arith, get_or-range_with_len 0 n k d (omega (arith, length-range_with_len 0 n)), length-range_with_len 0 n) in
    let there = All-permutation (λ x. x < n) (range_with_len 0 n) (map (λ p. p.1) order) h all q 0 here in
    subst (λ x. x < n) (get_or-map (λ p. p.1) order q (record { 0 = 0; 1 = 0 }) 0 lt) there

-- what an index into a list reads
pub reads_any : {X : Type 0} (xs : List X) (i : ℕ) (x d : X) → i < length xs → x ≡ get_or xs i x → x ≡ get_or xs i d
reads_any xs i x d lt e = e ∙ get_or_default xs i x d lt

pub parents_below : (parents : List (Option ℕ)) (b : ℕ) (d : Option ℕ) → AreNodes parents → b < length parents → IsBelow (length parents) (get_or parents b d)
parents_below parents b d nodes lt a e = nodes a b (slice_get-get_or parents b d lt ∙ ap Some e)

pub below_read : (count i : ℕ) (xs : List (Option ℕ)) (x : Option ℕ) → AreAllBelow count xs → i < length xs → x ≡ get_or xs i x → IsBelow count x
below_read count i xs x h lt e = subst (IsBelow count) (sym (reads_any xs i x None lt e)) (h i lt)

abbrev pub Waits : ℕ → List ℕ → Type 0
Waits count xs = All (λ n. n < count) xs

pub none_waits : (count : ℕ) (xs : List ℕ) → xs ≡ [] → Waits count xs
none_waits count xs e k d lt = absurd (omega (arith, ap length e))

-- the last of those that wait
pub last_waits : (count n : ℕ) (xs rest : List ℕ) → xs ≡ rest ++ n ∷ [] → Waits count xs → n < count
last_waits count n xs rest e h =
    subst (λ x. x < count) (ap (λ (l : List ℕ). get_or l (length rest) 0) e ∙ get_or_push rest n 0 (length rest) refl)
    (h (length rest) 0 (omega (arith, ap length e, length-append rest (n ∷ []))))

pub rest_waits : (count n : ℕ) (xs rest : List ℕ) → xs ≡ rest ++ n ∷ [] → Waits count xs → Waits count rest
rest_waits count n xs rest e h k d lt =
    subst (λ x. x < count) (ap (λ (l : List ℕ). get_or l k d) e ∙ get_or_append_left rest (n ∷ []) d k lt)
    (h k d (omega (arith, lt, ap length e, length-append rest (n ∷ []))))
