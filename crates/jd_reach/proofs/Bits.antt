-- Bits of rows, as the words that hold them are read and written.
use Rattle.std.proofs.Common.{◌≡◌, refl, max, min, zero, suc, ℕ, ◌+◌, ◌-◌, ◌*◌, ◌/◌, ◌%◌, ◌^◌, ◌<◌, ◌≤◌, ◌&&◌, ◌||◌, ◌==◌, Bool, true, false, List, length, get_or, nat_eq, slice_set, bit_and, bit_or, sym, ap, ◌∙◌, inl, inr, arith, w64, eq-eqb, eqb-true, replicate, ltb}
use Rattle.std.proofs.lemmas.Bool.{cases_eq, cases_lt, and_parts, and_from, and_left, or_right, ne_eqb, false_from_ne_true, both_ways, ltb-true}
use Rattle.std.proofs.lemmas.List.{get_or-set_other, get_or-replicate}
use Rattle.std.proofs.lemmas.Grind.{get_or-set_at}
use Rattle.std.proofs.lemmas.Nat.{same_from_place, row_fits, mul-le, shr-shr, shr_le}
use Rattle.std.proofs.lemmas.Nat.Bits.{shr_and_one, bit_at_or, bit_at-lt, bit_at-zero, bit_at_above, bit_at_and, bit_at_not, bit_at-trailing_zeros, bit_at_set_same, bit_at_set_other}
use Rattle.std.specs.Int.{bit_at, bit_not, trailing_zeros}
use Rattle.jd_reach.specs.Rows.{row_bit, within}
use Rattle.jd_reach.proofs.Ways.{edge_of, bit_of}

pub or_nothing : (x y : Bool) → y ≡ false → (x || y) ≡ x
or_nothing true y e = refl
or_nothing false y e = e

-- one of two bits is set
max_is_one : (m n : ℕ) → m < 2 → n < 2 → (max m n == 1) ≡ ((m == 1) || (n == 1))
max_is_one zero zero p q = refl
max_is_one zero (suc zero) p q = refl
max_is_one zero (suc (suc n)) p q = absurd (omega arith)
max_is_one (suc zero) zero p q = refl
max_is_one (suc zero) (suc zero) p q = refl
max_is_one (suc zero) (suc (suc n)) p q = absurd (omega arith)
max_is_one (suc (suc m)) n p q = absurd (omega arith)

pub bit_read : (width : ℕ) (words : List ℕ) (row bit : ℕ)
    → nat_eq (bit_and (get_or words (row * width + bit / 64) 0 / 2 ^ (bit % 64)) 1) 1 ≡ row_bit width words row bit
unfolding row_bit
bit_read width words row bit = ap (λ n. nat_eq n 1) (shr_and_one (get_or words (row * width + bit / 64) 0) (bit % 64))

module _ (width : ℕ) (words : List ℕ) (row bit : ℕ) where
  abbrev word : ℕ
  word = get_or words (row * width + bit / 64) 0

  -- the words after the bit is set
  abbrev pub with_bit : List ℕ
  with_bit = slice_set words (row * width + bit / 64) (bit_or word (1 * 2 ^ (bit % 64) % 2 ^ 64))

  -- a bit of the word that was written
  in_word : (a b : ℕ) → (a * width + b / 64) ≡ (row * width + bit / 64) → row * width + width ≤ length words → bit < 64 * width
      → bit_at (get_or with_bit (a * width + b / 64) 0) (b % 64) ≡ bit_at (bit_or word (1 * 2 ^ (bit % 64) % 2 ^ 64)) (b % 64)
  in_word a b here fits within =
      ap (λ x. bit_at x (b % 64)) (get_or-set_at words (row * width + bit / 64) (a * width + b / 64) _ 0 here (omega arith))

  pub bit_written : row * width + width ≤ length words → bit < 64 * width → (a b : ℕ) → b < 64 * width
      → row_bit width with_bit a b ≡ (row_bit width words a b || ((a == row) && (b == bit)))
  unfolding row_bit
  bit_written fits within a b inside =
      elim (cases_eq (a * width + b / 64) (row * width + bit / 64)) [
        | inl here ↦
            let same : (a ≡ row) × (b / 64 ≡ bit / 64) = same_from_place a (b / 64) row (bit / 64) width (omega arith) (omega arith) here in
            elim (cases_eq (b % 64) (bit % 64)) [
              | inl alike ↦
                  ap (λ n. n == 1) (in_word a b here fits within ∙ ap (bit_at (bit_or word (1 * 2 ^ (bit % 64) % 2 ^ 64))) alike ∙ bit_at_set_same w64 word (bit % 64) (omega arith))
                  ∙ sym (or_right (row_bit width words a b) _ (and_from (a == row) (b == bit) (eq-eqb a row same.0) (eq-eqb b bit (omega arith))))
              | inr other ↦
                  ap (λ n. n == 1) (in_word a b here fits within ∙ bit_at_set_other w64 word (bit % 64) (omega arith) (b % 64) other ∙ ap (λ p. bit_at (get_or words p 0) (b % 64)) (sym here))
                  ∙ sym (or_nothing (row_bit width words a b) _ (false_from_ne_true _ (λ t. other (ap (λ n. n % 64) (eqb-true b bit (and_parts (a == row) (b == bit) t).1)))))
            ]
        | inr elsewhere ↦
            ap (λ x. bit_at x (b % 64) == 1) (get_or-set_other words (row * width + bit / 64) (a * width + b / 64) _ 0 elsewhere)
            ∙ sym (or_nothing (row_bit width words a b) _ (false_from_ne_true _ (λ t.
            let both = and_parts (a == row) (b == bit) t in
            let rows : a ≡ row = eqb-true a row both.0 in
            let bits : b ≡ bit = eqb-true b bit both.1 in
            elsewhere (rw (rows, bits) refl))))
      ]

-- the first words of the row `into` are joined with those of the row `from`, and no others have changed
pub record IsJoined (width into from : ℕ) (old new : List ℕ) (count : ℕ) : Type 0 where
  pub done : (j : ℕ) → j < count → get_or new (into * width + j) 0 ≡ bit_or (get_or old (into * width + j) 0) (get_or old (from * width + j) 0)
  pub before : (i : ℕ) → i < into * width → get_or new i 0 ≡ get_or old i 0
  pub after : (i : ℕ) → into * width + count ≤ i → get_or new i 0 ≡ get_or old i 0

module _ (width into from : ℕ) (old : List ℕ) where
  pub none_joined : IsJoined width into from old old 0
  none_joined = record { done = λ j h. absurd (omega arith); before = λ i h. refl; after = λ i h. refl }

  -- the word that is joined with next has not changed
  unchanged : (new : List ℕ) (count : ℕ) → count < width → IsJoined width into from old new count
      → get_or new (from * width + count) 0 ≡ get_or old (from * width + count) 0
  unchanged new count lt h =
      elim (cases_lt from into) [
        | inl below ↦ let apart = row_fits from width into width below (omega arith) in h.before (from * width + count) (omega arith)
        | inr above ↦ let apart = mul-le into width from width above (omega arith) in h.after (from * width + count) (omega arith)
      ]

  pub one_more_joined : (new : List ℕ) (count : ℕ) → length new ≡ length old → into * width + width ≤ length old → count < width → IsJoined width into from old new count
      → IsJoined width into from old (slice_set new (into * width + count) (bit_or (get_or new (into * width + count) 0) (get_or new (from * width + count) 0))) (count + 1)
  one_more_joined new count same fits lt h =
      let at : ℕ = into * width + count in
      let word : ℕ = bit_or (get_or new at 0) (get_or new (from * width + count) 0) in
      record {
        done = λ j below.
            elim (cases_eq j count) [
              | inl last ↦
                  get_or-set_at new at (into * width + j) word 0 (omega arith) (omega arith)
                  ∙ ap (λ x. bit_or x (get_or new (from * width + count) 0)) (h.after at (omega arith))
                  ∙ ap (bit_or (get_or old at 0)) (unchanged new count lt h)
                  ∙ ap (λ i. bit_or (get_or old (into * width + i) 0) (get_or old (from * width + i) 0)) (sym last)
              | inr other ↦ get_or-set_other new at (into * width + j) word 0 (omega arith) ∙ h.done j (omega arith)
            ];
        before = λ i below. get_or-set_other new at i word 0 (omega arith) ∙ h.before i below;
        after = λ i above. get_or-set_other new at i word 0 (omega arith) ∙ h.after i (omega arith);
      }

  pub rows_joined : (new : List ℕ) → IsJoined width into from old new width → (a b : ℕ) → b < 64 * width
      → row_bit width new a b ≡ (row_bit width old a b || ((a == into) && row_bit width old from b))
  unfolding row_bit
  rows_joined new h a b inside =
      elim (cases_eq a into) [
        | inl here ↦
            let place : get_or new (a * width + b / 64) 0 ≡ bit_or (get_or old (a * width + b / 64) 0) (get_or old (from * width + b / 64) 0) = rw here (h.done (b / 64) (omega arith)) in
            ap (λ x. bit_at x (b % 64) == 1) place
            ∙ ap (λ n. n == 1) (bit_at_or (get_or old (a * width + b / 64) 0) (get_or old (from * width + b / 64) 0) (b % 64))
            ∙ max_is_one _ _ (bit_at-lt (get_or old (a * width + b / 64) 0) (b % 64)) (bit_at-lt (get_or old (from * width + b / 64) 0) (b % 64))
            ∙ ap (λ t. row_bit width old a b || (t && row_bit width old from b)) (sym (eq-eqb a into here))
        | inr other ↦
            let kept : get_or new (a * width + b / 64) 0 ≡ get_or old (a * width + b / 64) 0 =
            elim (cases_lt a into) [
              | inl below ↦ let apart = row_fits a width into width below (omega arith) in h.before (a * width + b / 64) (omega arith)
              | inr above ↦ let apart = row_fits into width a width (omega arith) (omega arith) in h.after (a * width + b / 64) (omega arith)
            ] in
            ap (λ x. bit_at x (b % 64) == 1) kept
            ∙ sym (or_nothing (row_bit width old a b) _ (and_left (a == into) (row_bit width old from b) (ne_eqb a into other)))
      ]

pub bit_of_zeros : (width n a b : ℕ) → a * width + b / 64 < n → row_bit width (replicate n 0) a b ≡ false
unfolding row_bit
bit_of_zeros width n a b inside =
    ap (λ x. bit_at x (b % 64) == 1) (get_or-replicate n (a * width + b / 64) 0 0 inside) ∙ ap (λ x. x == 1) (bit_at-zero (b % 64))

-- a graph of zeros has no edge
pub no_edge : (nodes width : ℕ) (words : List ℕ) → words ≡ replicate (nodes * width) 0 → nodes ≤ 64 * width → (a b : ℕ) → within nodes (row_bit width words) a b ≡ false
no_edge nodes width words zeros covered a b =
    false_from_ne_true _ (λ t.
    let parts = and_parts (ltb a nodes && ltb b nodes) (row_bit width words a b) t in
    let below = and_parts (ltb a nodes) (ltb b nodes) parts.0 in
    let row : a < nodes = ltb-true a nodes below.0 in
    let bit : b < nodes = ltb-true b nodes below.1 in
    let fits : a * width + width ≤ nodes * width = row_fits a width nodes width row (omega arith) in
    both_ways (row_bit width words a b) (ap (λ x. row_bit width x a b) zeros ∙ bit_of_zeros width (nodes * width) a b (omega arith)) parts.1)

-- the bits of a word that is shifted
shifted : (word from i : ℕ) → bit_at (word / 2 ^ from) i ≡ bit_at word (from + i)
shifted word from i = ap (λ x. x % 2) (shr-shr word from i)

shifted_back : (word from b : ℕ) → from ≤ b → bit_at word b ≡ bit_at (word / 2 ^ from) (b - from)
shifted_back word from b le = let e : b ≡ from + (b - from) = omega arith in ap (bit_at word) e ∙ sym (shifted word from (b - from))

pub none_from : (word from b : ℕ) → word / 2 ^ from ≡ 0 → from ≤ b → bit_at word b ≡ 1 → ⊥
none_from word from b zeros le set =
    let e : bit_at word b ≡ 0 = shifted_back word from b le ∙ ap (λ x. bit_at x (b - from)) zeros ∙ bit_at-zero (b - from) in
    omega (arith, e, set)

module _ (word from : ℕ) (fits : word < 2 ^ 64) (more : 0 < word / 2 ^ from) where
  abbrev zeros : ℕ
  zeros = trailing_zeros w64 (word / 2 ^ from)

  rest_fits : word / 2 ^ from < 2 ^ 64
  rest_fits = omega (arith, shr_le word from)

  pub lowest_set : (from + zeros < 64) × (bit_at word (from + zeros) ≡ 1)
  lowest_set =
      let low = bit_at-trailing_zeros w64 (word / 2 ^ from) more rest_fits in
      let set : bit_at word (from + zeros) ≡ 1 = sym (shifted word from zeros) ∙ low.1 in (
        elim (cases_lt (from + zeros) 64) [
          | inl within ↦ within
          | inr beyond ↦ absurd (let e = bit_at_above word 64 (from + zeros) fits beyond in omega (arith, e, set))
        ],
        set,
      )

  pub lowest_first : (b : ℕ) → from ≤ b → bit_at word b ≡ 1 → from + zeros ≤ b
  lowest_first b le set =
      let low = bit_at-trailing_zeros w64 (word / 2 ^ from) more rest_fits in
      elim (cases_lt b (from + zeros)) [
        | inl below ↦ absurd (let e = low.2 (b - from) (omega arith) in omega (arith, e, shifted_back word from b le, set))
        | inr above ↦ above
      ]

-- an edge, by the word that its bit is in
module _ (nodes width row bit : ℕ) (words : List ℕ) where
  abbrev this_word : ℕ
  this_word = get_or words (row * width + bit / 64) 0

  pub edge_in_word : row < nodes → (place : ℕ) → place < 64 → bit_at this_word place ≡ 1 → bit - bit % 64 + place < nodes
      → within nodes (row_bit width words) row (bit - bit % 64 + place) ≡ true
  unfolding row_bit
  edge_in_word below place inside set found_below =
      let found : ℕ = bit - bit % 64 + place in
      let word_at : found / 64 ≡ bit / 64 = omega arith in
      let place_at : found % 64 ≡ place = omega arith in
      edge_of nodes (row_bit width words) row found below found_below
      (eq-eqb (bit_at (get_or words (row * width + found / 64) 0) (found % 64)) 1
      (ap (λ k. bit_at (get_or words (row * width + k) 0) (found % 64)) word_at ∙ ap (bit_at this_word) place_at ∙ set))

  pub word_of_edge : (b : ℕ) → bit ≤ b → b < bit - bit % 64 + 64 → within nodes (row_bit width words) row b ≡ true
      → (bit % 64 ≤ b % 64) × (b ≡ bit - bit % 64 + b % 64) × (bit_at this_word (b % 64) ≡ 1)
  unfolding row_bit
  word_of_edge b le below edge =
      let word_at : b / 64 ≡ bit / 64 = omega arith in
      let set = eqb-true (bit_at (get_or words (row * width + b / 64) 0) (b % 64)) 1 (bit_of nodes (row_bit width words) row b edge) in
      (omega arith, omega arith, ap (λ k. bit_at (get_or words (row * width + k) 0) (b % 64)) (sym word_at) ∙ set)

-- the bits of a word that another lacks
module _ (word known place : ℕ) (fits : known < 2 ^ 64) (inside : place < 64) where
  lacking : bit_at (bit_and word (bit_not w64 known)) place ≡ min (bit_at word place) (1 - bit_at known place)
  lacking = bit_at_and word (bit_not w64 known) place ∙ ap (min (bit_at word place)) (bit_at_not w64 known place fits inside)

  pub lacks : bit_at (bit_and word (bit_not w64 known)) place ≡ 1 → (bit_at word place ≡ 1) × (bit_at known place ≡ 0)
  lacks set =
      let one = bit_at-lt word place in
      (omega (arith, lacking, set, one), omega (arith, lacking, set, one))

  pub lacks_from : bit_at word place ≡ 1 → bit_at known place ≡ 0 → bit_at (bit_and word (bit_not w64 known)) place ≡ 1
  lacks_from set unset = omega (arith, lacking, set, unset)

-- a bit that is not set, by the word that it is in
module _ (width row bit : ℕ) (words : List ℕ) where
  pub unset_in_word : (place : ℕ) → place < 64 → bit_at (get_or words (row * width + bit / 64) 0) place ≡ 0 → row_bit width words row (bit - bit % 64 + place) ≡ false
  unfolding row_bit
  unset_in_word place inside unset =
      let found : ℕ = bit - bit % 64 + place in
      let word_at : found / 64 ≡ bit / 64 = omega arith in
      let place_at : found % 64 ≡ place = omega arith in
      let zero_is : bit_at (get_or words (row * width + found / 64) 0) (found % 64) ≡ 0 =
      ap (λ k. bit_at (get_or words (row * width + k) 0) (found % 64)) word_at ∙ ap (bit_at (get_or words (row * width + bit / 64) 0)) place_at ∙ unset in
      ne_eqb (bit_at (get_or words (row * width + found / 64) 0) (found % 64)) 1 (λ e. omega (arith, e, zero_is))

  pub word_of_unset : (b : ℕ) → bit ≤ b → b < bit - bit % 64 + 64 → row_bit width words row b ≡ false → bit_at (get_or words (row * width + bit / 64) 0) (b % 64) ≡ 0
  unfolding row_bit
  word_of_unset b le below unset =
      let word_at : b / 64 ≡ bit / 64 = omega arith in
      let one = bit_at-lt (get_or words (row * width + b / 64) 0) (b % 64) in
      let zero_is : bit_at (get_or words (row * width + b / 64) 0) (b % 64) ≡ 0 =
      elim (cases_eq (bit_at (get_or words (row * width + b / 64) 0) (b % 64)) 1) [
        | inl set ↦ absurd (both_ways (bit_at (get_or words (row * width + b / 64) 0) (b % 64) == 1) unset (eq-eqb _ 1 set))
        | inr other ↦ omega (arith, other, one)
      ] in
      ap (λ k. bit_at (get_or words (row * width + k) 0) (b % 64)) (sym word_at) ∙ zero_is

-- an edge that a closed row lacks, by the words that its bits are in
pub missing_in_word : (nodes width member row bit : ℕ) (words closed : List ℕ) → get_or closed (row * width + bit / 64) 0 < 2 ^ 64
    → (b : ℕ) → bit ≤ b → b < bit - bit % 64 + 64 → within nodes (row_bit width words) member b ≡ true → row_bit width closed row b ≡ false
    → (bit % 64 ≤ b % 64) × (b ≡ bit - bit % 64 + b % 64)
    × (bit_at (bit_and (get_or words (member * width + bit / 64) 0) (bit_not w64 (get_or closed (row * width + bit / 64) 0))) (b % 64) ≡ 1)
missing_in_word nodes width member row bit words closed fits b le below edge unset =
    let word = word_of_edge nodes width member bit words b le below edge in (
      word.0,
      word.1,
      lacks_from (get_or words (member * width + bit / 64) 0) (get_or closed (row * width + bit / 64) 0) (b % 64) fits (omega arith) word.2
          (word_of_unset width row bit closed b le below unset),
    )
