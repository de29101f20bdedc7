-- The two inductions: where each obligation is valid wherever the contracts that it may use are kept, every case is kept.
use Rattle.std.proofs.Common.{◌≡◌, ℕ, zero, suc, ◌≤◌, ◌<◌, Bool, true, false, cond, ℤ, pos, negsuc, Some, List, refl, sym, ap, ◌∙◌, true≢false, arith, int_le, int_lt, ⊎_elim}
use Rattle.std.proofs.lemmas.Bool.{cases_lt, lt-ltb, ltb-true}
use Rattle.jd_heap.specs.References.{Reference}
use Rattle.jd_heap.specs.Heaps.{Heap}
use Rattle.jd_heap.specs.Values.{Value}
use Rattle.jd_model.specs.Cases.{Case, SpecifiedProgram}
use Rattle.jd_model.specs.KeptCases.{Entry, KeptTo, KeptFrom, Kept, KeptBelow, SmallerKept, Usable, measure_of}
use Rattle.jd_oblig.specs.KeptByObligations.{IsReachability}

-- how many numbers below n pass a test
abbrev count : ℕ → (ℕ → Bool) → ℕ
count zero f = 0
count (suc n) f = cond (f n) (suc (count n f)) (count n f)

one_more : (a b : Bool) → (a ≡ true → b ≡ true) → (x y : ℕ) → x ≤ y → cond a (suc x) x ≤ cond b (suc y) y
one_more true true h x y le = omega arith
one_more true false h x y le = absurd (true≢false (sym (h refl)))
one_more false true h x y le = omega arith
one_more false false h x y le = le

count_le : (n : ℕ) (f g : ℕ → Bool) → ((x : ℕ) → f x ≡ true → g x ≡ true) → count n f ≤ count n g
count_le zero f g h = omega arith
count_le (suc n) f g h = one_more (f n) (g n) (h n) _ _ (count_le n f g h)

one_less : (a b : Bool) → (a ≡ true → b ≡ true) → (x y : ℕ) → x < y → cond a (suc x) x < cond b (suc y) y
one_less true true h x y le = omega arith
one_less true false h x y le = absurd (true≢false (sym (h refl)))
one_less false true h x y le = omega arith
one_less false false h x y le = le

just_more : (a b : Bool) → a ≡ false → b ≡ true → (x y : ℕ) → x ≤ y → cond a (suc x) x < cond b (suc y) y
just_more true b e f x y le = absurd (true≢false e)
just_more false true e f x y le = omega arith
just_more false false e f x y le = absurd (true≢false (sym f))

count_lt : (n : ℕ) (f g : ℕ → Bool) → ((x : ℕ) → f x ≡ true → g x ≡ true) → (x : ℕ) → x < n → f x ≡ false → g x ≡ true → count n f < count n g
count_lt zero f g h x lt out inside = absurd (omega arith)
count_lt (suc n) f g h x lt out inside =
    ⊎_elim (λ (small : x < n). one_less (f n) (g n) (h n) _ _ (count_lt n f g h x small out inside))
    (λ (big : n ≤ x). let q : n ≡ x = omega arith in just_more (f n) (g n) (ap f q ∙ out) (ap g q ∙ inside) _ _ (count_le n f g h))
    (cases_lt x n)

-- ---- numbers

abbrev above : ℤ → ℕ
above (pos n) = suc n
above (negsuc n) = 0

below_above : (z : ℤ) → int_lt z (pos (above z)) ≡ true
below_above (pos n) = lt-ltb n (suc n) (omega arith)
below_above (negsuc n) = refl

nothing_between : (x m : ℤ) → int_le (pos 0) x ≡ true → int_lt x m ≡ true → int_lt m (pos 0) ≡ true → ⊥
nothing_between (pos x) (pos m) a b c = let q : m < 0 = ltb-true m 0 c in omega arith
nothing_between (pos x) (negsuc m) a b c = true≢false (sym b)
nothing_between (negsuc x) m a b c = true≢false (sym a)

one_down : (x m : ℤ) (j : ℕ) → int_le (pos 0) x ≡ true → int_lt x m ≡ true → int_lt m (pos (suc j)) ≡ true → int_lt x (pos j) ≡ true
one_down (pos x) (pos m) j a b c = let q : x < m = ltb-true x m b in let r : m < suc j = ltb-true m (suc j) c in lt-ltb x j (omega arith)
one_down (pos x) (negsuc m) j a b c = absurd (true≢false (sym b))
one_down (negsuc x) m j a b c = absurd (true≢false (sym a))

by_flag : {Z : Type 0} (b : Bool) → (b ≡ true → Z) → (b ≡ false → Z) → Z
by_flag true h k = h refl
by_flag false h k = k refl

-- what an obligation's validity says of its case: in a box, to a depth; in a diamond, from the entry states of one measure
pub record Links (p : SpecifiedProgram) (ValidAt : ℕ → ℕ → ℤ → Type 0) : Type 0 where
  pub in_box : (κ : ℕ) (c : Case) → p.case κ ≡ Some c → c.contract.diverges ≡ true → (d : ℕ) → ((m : ℤ) → ValidAt κ d m) → KeptTo p c d
  pub in_diamond : (κ : ℕ) (c : Case) → p.case κ ≡ Some c → c.contract.diverges ≡ false → (h : Heap) (r : Reference) (vs : List Value) → Entry p c h r vs → ValidAt κ 0 (measure_of p c h r vs) → KeptFrom p c h r vs

module _ (p : SpecifiedProgram) (reach : IsReachability p) (ValidAt : ℕ → ℕ → ℤ → Type 0) (links : Links p ValidAt) (valid : (κ : ℕ) (c : Case) → p.case κ ≡ Some c → (d : ℕ) (m : ℤ) → Usable p c.family d m → ValidAt κ d m) where
  abbrev rank : ℕ → ℕ
  rank a = count p.families (p.reaches a)

  rank_le : (a b : ℕ) → p.reaches a b ≡ true → rank b ≤ rank a
  rank_le a b r = count_le p.families (p.reaches b) (p.reaches a) (λ x q. reach.transitive a b x r q)

  rank_lt : (a b : ℕ) → a < p.families → p.reaches a b ≡ true → p.reaches b a ≡ false → rank b < rank a
  rank_lt a b in_a r out = count_lt p.families (p.reaches b) (p.reaches a) (λ x q. reach.transitive a b x r q) a in_a out (reach.reflexive a)

  -- the terminating cases of families below a rank are kept
  abbrev KeptRank : ℕ → Type 0
  KeptRank k = (κ : ℕ) (c : Case) → p.case κ ≡ Some c → c.contract.diverges ≡ false → rank c.family < k → Kept p c

  -- at call depth 0 nothing is asked of cases that may diverge
  module _ (k : ℕ) (lower : KeptRank k) where
    at_measure : (κ : ℕ) (c : Case) → p.case κ ≡ Some c → c.contract.diverges ≡ false → rank c.family < suc k → (h : Heap) (r : Reference) (vs : List Value) → Entry p c h r vs → SmallerKept p c.family (measure_of p c h r vs) → KeptFrom p c h r vs
    at_measure κ c q ends small h r vs en inside = links.in_diamond κ c q ends h r vs en (valid κ c q 0 (measure_of p c h r vs) record {
      below = λ κ' c' q' e none. absurd (omega arith);
      lower = λ κ' c' q' ends' to back. let less = rank_lt c.family c'.family (reach.bounded κ c q) to back in lower κ' c' q' ends' (omega arith);
      smaller = inside;
    })

    from : (j : ℕ) (κ : ℕ) (c : Case) → p.case κ ≡ Some c → c.contract.diverges ≡ false → rank c.family < suc k → (h : Heap) (r : Reference) (vs : List Value) → Entry p c h r vs → int_lt (measure_of p c h r vs) (pos j) ≡ true → KeptFrom p c h r vs
    from zero κ c q ends small h r vs en lt = at_measure κ c q ends small h r vs en
        (λ κ' c' q' ends' to back h' r' vs' en' low high. absurd (nothing_between (measure_of p c' h' r' vs') (measure_of p c h r vs) low high lt))
    from (suc i) κ c q ends small h r vs en lt = at_measure κ c q ends small h r vs en
        (λ κ' c' q' ends' to back h' r' vs' en' low high. let less = rank_le c.family c'.family to in from i κ' c' q' ends' (omega arith) h' r' vs' en' (one_down (measure_of p c' h' r' vs') (measure_of p c h r vs) i low high lt))

    rank_step : KeptRank (suc k)
    rank_step κ c q ends small = (
      λ e h r vs en. (from (above (measure_of p c h r vs)) κ c q ends small h r vs en (below_above (measure_of p c h r vs))).0 e,
      λ _ h r vs en. (from (above (measure_of p c h r vs)) κ c q ends small h r vs en (below_above (measure_of p c h r vs))).1,
    )

  ranked : (k : ℕ) → KeptRank k
  ranked zero = λ κ c q ends none. absurd (omega arith)
  ranked (suc k) = rank_step k (ranked k)

  -- first: the cases that are to end
  pub terminating : (κ : ℕ) (c : Case) → p.case κ ≡ Some c → c.contract.diverges ≡ false → Kept p c
  terminating κ c q ends = ranked (suc (rank c.family)) κ c q ends (omega arith)

  usable : (own d : ℕ) (m : ℤ) → KeptBelow p d → Usable p own d m
  usable own d m below = record {
    below = below;
    lower = λ κ c q ends _ _. terminating κ c q ends;
    smaller = λ κ c q ends _ _ h r vs en _ _. ((λ e. (terminating κ c q ends).0 e h r vs en), (terminating κ c q ends).1 ends h r vs en);
  }

  -- second: all cases, by depth
  deep : (d : ℕ) → KeptBelow p d
  deep zero = λ κ c q e none. absurd (omega arith)
  deep (suc d) = λ κ c q e lt. by_flag c.contract.diverges
      (λ may. links.in_box κ c q may e (λ m. valid κ c q e m (usable c.family e m (λ κ' c' q' e' lt'. deep d κ' c' q' e' (omega arith)))))
      (λ must. (terminating κ c q must).0 e)

  pub every_case_kept : (κ : ℕ) (c : Case) → p.case κ ≡ Some c → Kept p c
  every_case_kept κ c q = ((λ e. deep (suc e) κ c q e (omega arith)), λ ends. (terminating κ c q ends).1 ends)
