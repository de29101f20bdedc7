-- The bytes of names and numbers are bytes of words.
use Rattle.std.proofs.Common.{◌≡◌, ◌≢◌, ◌⊎◌, ℕ, ◌<◌, ◌≤◌, Bool, true, false, cond, ◌||◌, nat_eq, List, [], ◌∷◌, refl, sym, true≢false, inl, inr, arith}
use Rattle.std.specs.List.{list_all}
use Rattle.std.proofs.lemmas.Bool.{and_parts}
use Rattle.std.proofs.lemmas.Bool.Decides.{nat_tests}
use Rattle.jd_bracketed.specs.Bytes.{is_blank, is_bracket, is_part, is_printing, is_word_byte}
use Rattle.jd_bracketed.specs.Texts.{AllOfWords}
use Rattle.jd_bracketed.specs.declared.class.Class.TheVariants.{Blank, InComment, Alone, Part}
use Rattle.jd_tforms.specs.Shapes.{is_digit, is_letter, is_name_byte, is_special_byte, is_within}

-- ---- one byte

in_words : (p q r s : Bool) → p ≡ false → q ≡ false → r ≡ false → s ≡ true → is_part (cond p Blank (cond q InComment (cond r Alone (cond s Part Alone)))) ≡ true
in_words true q r s ep eq er es = absurd (true≢false ep)
in_words false true r s ep eq er es = absurd (true≢false eq)
in_words false false true s ep eq er es = absurd (true≢false er)
in_words false false false true ep eq er es = refl
in_words false false false false ep eq er es = absurd (true≢false (sym es))

-- a byte behind the space that is no bracket and no semicolon
record IsOfWords (b : ℕ) : Type 0 where
  low : 32 < b
  high : b < 127
  semicolon : b ≢ 59
  round : b ≢ 40
  round_end : b ≢ 41
  square : b ≢ 91
  square_end : b ≢ 93

no_blank : (b : ℕ) → 32 < b → is_blank b ≡ false
no_blank b low = grind (arith, nat_tests, low)

no_bracket : (b : ℕ) → b ≢ 40 → b ≢ 41 → b ≢ 91 → b ≢ 93 → is_bracket b ≡ false
no_bracket b n m k l = grind (arith, nat_tests, n, m, k, l)

printing : (b : ℕ) → 32 < b → b < 127 → is_printing b ≡ true
printing b low high = grind (arith, nat_tests, low, high)

no_semicolon : (b : ℕ) → b ≢ 59 → nat_eq b 59 ≡ false
no_semicolon b n = grind (arith, nat_tests, n)

word_byte : (b : ℕ) → IsOfWords b → is_word_byte b ≡ true
word_byte b h =
    in_words (is_blank b) (nat_eq b 59) (is_bracket b) (is_printing b)
    (no_blank b h.low) (no_semicolon b h.semicolon) (no_bracket b h.round h.round_end h.square h.square_end) (printing b h.low h.high)

or_then : {P : Type 0} (x y : Bool) → (x || y) ≡ true → (x ≡ true → P) → (y ≡ true → P) → P
or_then true y h f g = f refl
or_then false y h f g = g h

pub same_byte : (b n : ℕ) → nat_eq b n ≡ true → b ≡ n
same_byte b n h = grind (arith, nat_tests, h)

within : (low high b : ℕ) → is_within low high b ≡ true → (low ≤ b) × (b ≤ high)
within low high b h = grind (arith, nat_tests, h)

of_range : (low high b : ℕ) → 32 < low → high < 127 → (59 < low) ⊎ (high < 59) → (41 < low) ⊎ (high < 40) → (91 < low) ⊎ (high < 91) → (93 < low) ⊎ (high < 93) → is_within low high b ≡ true → is_word_byte b ≡ true
of_range low high b l h semi between square_from square_to e =
    let r = within low high b e in
    let least = r.0 in
    let most = r.1 in
    word_byte b record {
      low = omega (arith, l, least);
      high = omega (arith, h, most);
      semicolon = λ is. apart 59 semi (omega (arith, is, least)) (omega (arith, is, most));
      round = λ is. beside between (omega (arith, is, least)) (omega (arith, is, most));
      round_end = λ is. beyond between (omega (arith, is, least)) (omega (arith, is, most));
      square = λ is. apart 91 square_from (omega (arith, is, least)) (omega (arith, is, most));
      square_end = λ is. apart 93 square_to (omega (arith, is, least)) (omega (arith, is, most));
    }
  where
    apart : (n : ℕ) → (n < low) ⊎ (high < n) → low ≤ n → n ≤ high → ⊥
    apart n (inl a) below above = omega (arith, a, below)
    apart n (inr a) below above = omega (arith, a, above)

    beside : (41 < low) ⊎ (high < 40) → low ≤ 40 → 40 ≤ high → ⊥
    beside (inl a) below above = omega (arith, a, below)
    beside (inr a) below above = omega (arith, a, above)

    beyond : (41 < low) ⊎ (high < 40) → low ≤ 41 → 41 ≤ high → ⊥
    beyond (inl a) below above = omega (arith, a, below)
    beyond (inr a) below above = omega (arith, a, above)

pub digit_byte : (b : ℕ) → is_digit b ≡ true → is_word_byte b ≡ true
digit_byte b h = of_range 48 57 b (omega arith) (omega arith) (inr (omega arith)) (inl (omega arith)) (inr (omega arith)) (inr (omega arith)) h

letter_byte : (b : ℕ) → is_letter b ≡ true → is_word_byte b ≡ true
letter_byte b h = or_then (is_within 97 122 b) (is_within 65 90 b) h
    (of_range 97 122 b (omega arith) (omega arith) (inl (omega arith)) (inl (omega arith)) (inl (omega arith)) (inl (omega arith)))
    (of_range 65 90 b (omega arith) (omega arith) (inl (omega arith)) (inl (omega arith)) (inr (omega arith)) (inr (omega arith)))

is_one : (b n : ℕ) → is_word_byte n ≡ true → nat_eq b n ≡ true → is_word_byte b ≡ true
is_one b n is h = let same : b ≡ n = same_byte b n h in rw same is

special_byte : (b : ℕ) → is_special_byte b ≡ true → is_word_byte b ≡ true
special_byte b h =
    or_then (((is_letter b || is_digit b) || nat_eq b 95) || nat_eq b 36) (nat_eq b 126) h
    (λ h. or_then ((is_letter b || is_digit b) || nat_eq b 95) (nat_eq b 36) h
    (λ h. or_then (is_letter b || is_digit b) (nat_eq b 95) h
    (λ h. or_then (is_letter b) (is_digit b) h (letter_byte b) (digit_byte b))
    (is_one b 95 refl))
    (is_one b 36 refl))
    (is_one b 126 refl)

name_byte : (b : ℕ) → is_name_byte b ≡ true → is_word_byte b ≡ true
name_byte b h =
    or_then (((is_special_byte b || nat_eq b 39) || nat_eq b 46) || nat_eq b 64) (nat_eq b 35) h
    (λ h. or_then ((is_special_byte b || nat_eq b 39) || nat_eq b 46) (nat_eq b 64) h
    (λ h. or_then (is_special_byte b || nat_eq b 39) (nat_eq b 46) h
    (λ h. or_then (is_special_byte b) (nat_eq b 39) h (special_byte b) (is_one b 39 refl))
    (is_one b 46 refl))
    (is_one b 64 refl))
    (is_one b 35 refl)

-- ---- words

pub all_of : (test : ℕ → Bool) → ((b : ℕ) → test b ≡ true → is_word_byte b ≡ true) → (w : List ℕ) → list_all test w ≡ true → AllOfWords w
all_of test is [] h = tt
all_of test is (b ∷ bs) h = let both = and_parts (test b) (list_all test bs) h in (is b both.0, all_of test is bs both.1)

pub all_digits : (w : List ℕ) → list_all is_digit w ≡ true → AllOfWords w
all_digits = all_of is_digit digit_byte

pub all_of_name : (w : List ℕ) → list_all is_name_byte w ≡ true → AllOfWords w
all_of_name = all_of is_name_byte name_byte
