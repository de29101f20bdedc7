-- The digits that are written of a number are read as it.
use Rattle.std.proofs.Common.{List, Some, [], ap, arith, false, not, nat_eq, nat_lt, refl, subst, suc, true, true≢false, zero, ◌%◌, ◌&&◌, ◌++◌, ◌+◌, ◌<◌, ◌^◌, ◌||◌, ◌∙◌, ◌∷◌, ◌≡◌, ◌≤◌, ℕ, ℤ, pos, negsuc, Bool, None, cond, option_map, sym}
use Rattle.std.proofs.lemmas.Bool.{and_parts, cond-false, cond-true, eqb-true, le-ltb, lt-ltb, ltb-true, ltb-false, ne_eqb}
use Rattle.std.proofs.lemmas.Fmt.{decimal_by_steps_wide}
use Rattle.std.proofs.lemmas.List.Folds.{list_all-append}
use Rattle.std.proofs.lemmas.Option.{none-some}
use Rattle.std.specs.Fmt.{decimal}
use Rattle.std.specs.List.{list_all}
use Rattle.std.specs.Option.{option_and_then}
use Rattle.std.specs.Str.Parse.{digits_value}
use Rattle.jd_tforms.proofs.Somes.{chained, guarded, mapped, parted_by, some_same}
use Rattle.jd_tforms.specs.Shapes.{integer_of, is_below, is_digit, is_empty, is_natural, loop_of, minus, natural_of, signed_of, wide}
use Rattle.jd_written.proofs.Integers.{decimal_is, number_value}
use Rattle.jd_written.specs.Written.{integer_text, number_text}

-- ---- digits

-- some digits, of which the first is no zero
abbrev AreDigits : List ℕ → Type 0
AreDigits [] = ⊥
AreDigits (b ∷ bs) = (is_digit b ≡ true) × (list_all is_digit bs ≡ true) × (nat_eq b 48 ≡ false)

a_digit : (d : ℕ) → d < 10 → is_digit (48 + d) ≡ true
a_digit d lt = λ i. not (le-ltb (48 + d) 48 (omega arith) i) && not (le-ltb 57 (48 + d) (omega (arith, lt)) i)

one_behind : (ds : List ℕ) (d : ℕ) → d < 10 → AreDigits ds → AreDigits (ds ++ ((48 + d) ∷ []))
one_behind [] d lt h = absurd h
one_behind (b ∷ bs) d lt h = (h.0, list_all-append is_digit bs ((48 + d) ∷ []) ∙ (λ i. h.1 i && (a_digit d lt i && true)), h.2)

decimal_digits : (n : ℕ) → n < 10 ^ 64 → 0 < n → AreDigits (decimal n)
decimal_digits n lt = decimal_by_steps_wide (λ m ds. 0 < m → AreDigits ds)
    (λ m one some. (a_digit m one, refl, ne_eqb (48 + m) 48 (λ e. omega (arith, e, some))))
    (λ m ds ten before some. one_behind ds (m % 10) (omega arith) (before (omega (arith, ten))))
    n lt

digits_are_natural : (ds : List ℕ) → AreDigits ds → is_natural ds ≡ true
digits_are_natural [] h = absurd h
digits_are_natural (b ∷ bs) h = λ i. h.0 i && h.1 i && (not (h.2 i) || is_empty bs)

zero_is_natural : is_natural (number_text 0) ≡ true
unfolding number_text
zero_is_natural = refl

text_is_natural : (n : ℕ) → n < 10 ^ 64 → is_natural (number_text n) ≡ true
text_is_natural zero lt = zero_is_natural
text_is_natural (suc n) lt = digits_are_natural (number_text (suc n)) (subst AreDigits (decimal_is (suc n) lt) (decimal_digits (suc n) lt (omega arith)))

-- ---- numbers

natural_is_read : (n : ℕ) → n < 10 ^ 64 → natural_of (number_text n) ≡ Some n
natural_is_read n lt = cond-true (is_natural (number_text n)) (Some (digits_value 10 (number_text n))) None (text_is_natural n lt) ∙ ap Some (number_value n)

-- the number of an index with at most nine digits
pub loop_is_read : (k : ℕ) → k < 1000000000 → loop_of (number_text k) ≡ Some k
loop_is_read k lt =
    ap (option_and_then (λ n. cond (nat_lt n 1000000000) (Some n) None)) (natural_is_read k (omega (arith, lt)))
    ∙ cond-true (nat_lt k 1000000000) (Some k) None (lt-ltb k 1000000000 lt)

-- and what is read so has at most nine
pub loop_is_narrow : (w : List ℕ) (k : ℕ) → loop_of w ≡ Some k → k < 1000000000
loop_is_narrow w k e =
    let h = chained (λ n. cond (nat_lt n 1000000000) (Some n) None) (natural_of w) k e in
    let g = guarded (nat_lt h.0 1000000000) (Some h.0) k h.2 in
    subst (λ n. n < 1000000000) (some_same h.0 k g.1) (ltb-true h.0 1000000000 g.0)

-- ---- integers

digit_bounds : (b : ℕ) → is_digit b ≡ true → (48 ≤ b) × (b ≤ 57)
digit_bounds b e =
    let h = and_parts (not (nat_lt b 48)) (not (nat_lt 57 b)) e in
    (ltb-false b 48 (denied (nat_lt b 48) h.0), ltb-false 57 b (denied (nat_lt 57 b) h.1))
  where
    denied : (c : Bool) → not c ≡ true → c ≡ false
    denied true p = absurd (true≢false (sym p))
    denied false p = refl

natural_begins : (b : ℕ) (bs : List ℕ) (n : ℕ) → natural_of (b ∷ bs) ≡ Some n → is_digit b ≡ true
natural_begins b bs n e =
    let h = guarded (is_natural (b ∷ bs)) (Some (digits_value 10 (b ∷ bs))) n e in
    let g = and_parts (is_digit b && list_all is_digit bs) (not (nat_eq b 48) || is_empty bs) h.0 in
    (and_parts (is_digit b) (list_all is_digit bs) g.0).0

-- an integer begins with a digit or a sign
pub signed_begins : (b : ℕ) (bs : List ℕ) (z : ℤ) → signed_of (b ∷ bs) ≡ Some z → b < 58
signed_begins b bs z e =
    parted_by (nat_eq b 45) (option_and_then minus (natural_of bs)) (option_map pos (natural_of (b ∷ bs))) z e
    (λ sign is. omega (arith, eqb-true b 45 sign))
    (λ none is. mapped (λ y. b < 58) pos (natural_of (b ∷ bs)) z is (λ n this. omega (arith, (digit_bounds b (natural_begins b bs n this)).1)))

natural_is_signed : (w : List ℕ) (n : ℕ) → natural_of w ≡ Some n → signed_of w ≡ Some (pos n)
natural_is_signed [] n e = absurd (none-some n e)
natural_is_signed (b ∷ bs) n e =
    cond-false (nat_eq b 45) (option_and_then minus (natural_of bs)) (option_map pos (natural_of (b ∷ bs))) (ne_eqb b 45 (λ sign. omega (arith, sign, (digit_bounds b (natural_begins b bs n e)).0)))
    ∙ ap (option_map pos) e

text_is_signed : (z : ℤ) → is_below wide z ≡ true → signed_of (integer_text z) ≡ Some z
text_is_signed (pos n) e = natural_is_signed (number_text n) n (natural_is_read n (omega (arith, ltb-true n wide e)))
text_is_signed (negsuc n) e = ap (option_and_then minus) (natural_is_read (suc n) (omega (arith, ltb-true n wide e)))

-- an integer of 128 bits is read from its text
pub integer_is_read : (z : ℤ) → is_below wide z ≡ true → integer_of wide (integer_text z) ≡ Some z
integer_is_read z e = ap (option_and_then (λ y. cond (is_below wide y) (Some y) None)) (text_is_signed z e) ∙ cond-true (is_below wide z) (Some z) None e
