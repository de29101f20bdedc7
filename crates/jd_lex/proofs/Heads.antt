-- Runs of bytes, white space, words, numerals, closing `*/` and last `@` signs, by the bytes at each index.
use Rattle.std.proofs.Common.{◌≡◌, inl, inr, ℕ, zero, suc, ◌+◌, ◌-◌, ◌*◌, ◌/◌, ◌<◌, ◌≤◌, Bool, true, false, cond, ◌&&◌, ◌==◌, List, [], ◌∷◌, ◌++◌, length, take, drop, get_or, get_or-take, refl, sym, ap, subst, ◌∙◌, arith, add-one, one-add}
use Rattle.std.proofs.lemmas.Bool.{cases_lt}
use Rattle.std.proofs.lemmas.List.{take-append-drop, length-take, length-drop, drop-drop, take_more, get_or-append-add}
use Rattle.std.proofs.Math.Seq.{drop-cons, take-add, get_or-append_seam}
use Rattle.std.proofs.Math.ListN.{drop_of_length-le, get_or-append}
use Rattle.std.specs.List.{list_any, list_all}
use Rattle.std.specs.Str.Parse.{digits_value}
use Rattle.std.specs.Char.{digit_value}
use Rattle.std.proofs.lemmas.Int.Digits.{digits_value_more}
use Rattle.std.proofs.lemmas.Str.Parse.{digits_value-take-le}
use Rattle.std.proofs.lemmas.Str.{digit_value_digit}
use Rattle.std.proofs.lemmas.Bool.Decides.{nat_tests}
use Rattle.jd_lex.specs.Bytes.{is_white, ends_line, is_digit, is_word_byte, is_at, AllOf, BeginsOther, IsRun}
use Rattle.jd_lex.specs.Parts.{IsWhite, IsWord, IsNumeral, Ignored, NoClose, without_last_ats}
use Rattle.jd_lex.specs.Lens.{Head, ClosesAt}

-- ---- runs

all_of : (test : ℕ → Bool) (bytes : List ℕ) → ((k : ℕ) → k < length bytes → test (get_or bytes k 0) ≡ true) → AllOf test bytes
all_of test [] h = tt
all_of test (b ∷ bytes) h = (h 0 (omega arith), all_of test bytes (λ k lt. h (suc k) (omega arith)))

pub all_of_at : (test : ℕ → Bool) (bytes : List ℕ) → AllOf test bytes → (k : ℕ) → k < length bytes → test (get_or bytes k 0) ≡ true
all_of_at test [] h k lt = let no : ⊥ = omega arith in absurd no
all_of_at test (b ∷ bytes) h zero lt = h.0
all_of_at test (b ∷ bytes) h (suc k) lt = all_of_at test bytes h.1 k (omega arith)

ends_at : (test : ℕ → Bool) (bytes : List ℕ) (n : ℕ) → (n < length bytes → test (get_or bytes n 0) ≡ false) → BeginsOther test (drop n bytes)
ends_at test bytes n h = elim (cases_lt n (length bytes)) [
  | inl lt ↦ subst (λ t. BeginsOther test t) (sym (drop-cons bytes n 0 lt)) (h lt)
  | inr le ↦ subst (λ t. BeginsOther test t) (sym (drop_of_length-le bytes le)) tt
]

pub run_head : (test : ℕ → Bool) (bytes : List ℕ) (n : ℕ) → n ≤ length bytes → ((k : ℕ) → k < n → test (get_or bytes k 0) ≡ true)
    → (n < length bytes → test (get_or bytes n 0) ≡ false) → Head (IsRun test) bytes n
run_head test bytes n le all last = record {
  within = le;
  is = record {
    all = all_of test (take n bytes) (λ k lt.
        let long = length-take n bytes in
        let low : k < n = omega (arith, long) in
        let read : get_or (take n bytes) k 0 ≡ get_or bytes k 0 = rw get_or-take in
        ap test read ∙ all k low);
    longest = ends_at test bytes n last;
  };
}

-- ---- white space

pub white_head : (jml : Bool) (bytes : List ℕ) (n m : ℕ) → Head (IsRun is_white) bytes n
    → Head (Ignored (jml && list_any ends_line (take n bytes))) (drop n bytes) m → Head (IsWhite jml) bytes (n + m)
white_head jml bytes n m h k = record {
  within = let long = length-drop n bytes in omega (arith, long, h.within, k.within);
  is = record {
    white = take n bytes;
    ats = take m (drop n bytes);
    joined = take-add n m bytes;
    run = subst (IsRun is_white (take n bytes)) (sym (take-append-drop m (drop n bytes)) ∙ ap (λ t. take m (drop n bytes) ++ t) (drop-drop m n bytes)) h.is;
    ignored = subst (Ignored (jml && list_any ends_line (take n bytes)) (take m (drop n bytes))) (drop-drop m n bytes) k.is;
  };
}

pub none_ignored : (bytes : List ℕ) → Head (Ignored false) bytes 0
none_ignored bytes = record { within = omega arith; is = refl }

-- ---- words and numerals

pub word_head : (bytes : List ℕ) (m : ℕ) → 0 < length bytes → Head (IsRun is_word_byte) (drop 1 bytes) m → Head IsWord bytes (1 + m)
word_head [] m lt h = let no : ⊥ = omega arith in absurd no
word_head (b ∷ bytes) m lt h = rw one-add (record {
  within = omega (arith, h.within);
  is = record { first = b; more = take m bytes; joined = refl; run = h.is };
})

pub zero_head : (bytes : List ℕ) → 0 < length bytes → get_or bytes 0 0 ≡ 48 → Head IsNumeral bytes 1
zero_head [] lt e = let no : ⊥ = omega arith in absurd no
zero_head (b ∷ bytes) lt e = record {
  within = omega arith;
  is = record { first = b; more = []; joined = refl; run = rw e refl };
}

pub numeral_head : (bytes : List ℕ) (m : ℕ) → 0 < length bytes → (get_or bytes 0 0 == 48) ≡ false → Head (IsRun is_digit) (drop 1 bytes) m → Head IsNumeral bytes (1 + m)
numeral_head [] m lt e h = let no : ⊥ = omega arith in absurd no
numeral_head (b ∷ bytes) m lt e h = rw one-add (record {
  within = omega (arith, h.within);
  is = record { first = b; more = take m bytes; joined = refl; run = rw e h.is };
})

-- ---- the number that digits write

pub digit_range : (c : ℕ) → is_digit c ≡ true → (48 ≤ c) × (c ≤ 57)
digit_range c h = grind (arith, nat_tests, h)

pub digit_is : (c : ℕ) → is_digit c ≡ true → digit_value c + 48 ≡ c
digit_is c h = let r = digit_range c h in digit_value_digit c r

pub value_more : (digits : List ℕ) (i v d : ℕ) → AllOf is_digit digits → i < length digits → v ≡ digits_value 10 (take i digits) → d ≡ get_or digits i 0 - 48
    → v * 10 + d ≡ digits_value 10 (take (i + 1) digits)
value_more digits i v d h lt is e =
    let k = digit_is (get_or digits i 0) (all_of_at is_digit digits h i lt) in
    let low = digit_range (get_or digits i 0) (all_of_at is_digit digits h i lt) in
    let same : d ≡ digit_value (get_or digits i 0) = omega (arith, k, e, low.0) in
    sym (digits_value_more 10 digits i lt ∙ (ap (λ m. m * 10 + digit_value (get_or digits i 0)) (sym is) ∙ ap (λ m. v * 10 + m) (sym same)))

pub too_big : (digits : List ℕ) (i v bound : ℕ) → v ≡ digits_value 10 (take i digits) → bound < v → bound < digits_value 10 digits
too_big digits i v bound is lt = let le = digits_value-take-le 10 digits i (omega arith) in omega (arith, le, is, lt)

pub soon_too_big : (digits : List ℕ) (i v bound : ℕ) → i < length digits → v ≡ digits_value 10 (take i digits) → bound / 10 < v → bound < digits_value 10 digits
soon_too_big digits i v bound lt is big =
    let le = digits_value-take-le 10 digits (i + 1) (omega arith) in
    let more = digits_value_more 10 digits i lt in
    let low : bound < v * 10 = omega (arith, big) in
    omega (arith, le, more, is, low)

-- ---- the first closing

abbrev pub Closes : List ℕ → ℕ → Type 0
Closes bytes k = (get_or bytes k 0 ≡ 42) × (get_or bytes (k + 1) 0 ≡ 47)

-- a closing in a text stands at some index
closing_index : (front behind : List ℕ) → Closes (front ++ 42 ∷ 47 ∷ behind) (length front)
closing_index front behind = (get_or-append_seam front 42 (47 ∷ behind) 0, get_or-append-add front (42 ∷ 47 ∷ behind) 1 0)

long_front : (front behind : List ℕ) → length front + 2 ≤ length (front ++ 42 ∷ 47 ∷ behind)
long_front [] behind = omega arith
long_front (b ∷ front) behind = let k = long_front front behind in omega (arith, k)

pub no_close : (bytes : List ℕ) → ((k : ℕ) → k + 1 < length bytes → Closes bytes k → ⊥) → NoClose bytes
no_close bytes h front behind e =
    h (length front) (let k = long_front front behind in omega (arith, k, ap length e)) (subst (λ t. Closes t (length front)) (sym e) (closing_index front behind))

long_more : (xs : List ℕ) → length (xs ++ 42 ∷ []) ≡ length xs + 1
long_more [] = omega arith
long_more (x ∷ xs) = let l = long_more xs in omega (arith, l)

first_close : (bytes : List ℕ) (n : ℕ) → n + 1 < length bytes → ((k : ℕ) → k < n → Closes bytes k → ⊥) → NoClose (take n bytes ++ 42 ∷ [])
first_close bytes n lt h = no_close (take n bytes ++ 42 ∷ []) (λ k low c. one k low c)
  where
    long : length (take n bytes) ≡ n
    long = let l = length-take n bytes in omega (arith, l, lt)

    longer : length (take n bytes ++ 42 ∷ []) ≡ n + 1
    longer = let l = long_more (take n bytes) in l ∙ omega (arith, long)

    read : (k : ℕ) → k < n → get_or (take n bytes ++ 42 ∷ []) k 0 ≡ get_or bytes k 0
    read k low = get_or-append (take n bytes) (42 ∷ []) 0 k (omega (arith, long)) ∙ rw get_or-take

    last : get_or (take n bytes ++ 42 ∷ []) n 0 ≡ 42
    last = subst (λ m. get_or (take n bytes ++ 42 ∷ []) m 0 ≡ 42) long (get_or-append_seam (take n bytes) 42 [] 0)

    one : (k : ℕ) → k + 1 < length (take n bytes ++ 42 ∷ []) → Closes (take n bytes ++ 42 ∷ []) k → ⊥
    one k low c =
        let below : k < n = omega (arith, longer, low) in
        elim (cases_lt (k + 1) n) [
          | inl lt' ↦ h k below (sym (read k below) ∙ c.0, sym (read (k + 1) lt') ∙ c.1)
          | inr le ↦
              let same : k + 1 ≡ n = omega (arith, below, le) in
              let is : 42 ≡ 47 = sym last ∙ (ap (λ m. get_or (take n bytes ++ 42 ∷ []) m 0) (sym same) ∙ c.1) in
              let no : ⊥ = omega (arith, is) in
              no
        ]

two_at : (bytes : List ℕ) (n : ℕ) → n + 1 < length bytes → Closes bytes n → drop n bytes ≡ 42 ∷ 47 ∷ drop (n + 2) bytes
two_at bytes n lt c =
    let one : drop n bytes ≡ get_or bytes n 0 ∷ drop (suc n) bytes = drop-cons bytes n 0 (omega arith) in
    let two : drop (suc n) bytes ≡ get_or bytes (suc n) 0 ∷ drop (suc (suc n)) bytes = drop-cons bytes (suc n) 0 (omega arith) in
    let second : get_or bytes (suc n) 0 ≡ 47 = subst (λ m. get_or bytes m 0 ≡ 47) (add-one n) c.1 in
    let at : suc (suc n) ≡ n + 2 = omega arith in
    let end : drop (suc (suc n)) bytes ≡ drop (n + 2) bytes = ap (λ m. drop m bytes) at in
    one ∙ (ap (λ b. b ∷ drop (suc n) bytes) c.0 ∙ ap (λ t. 42 ∷ t) (two ∙ (ap (λ b. b ∷ drop (suc (suc n)) bytes) second ∙ ap (λ t. 47 ∷ t) end)))

pub closes_at : (bytes : List ℕ) (n : ℕ) → n + 1 < length bytes → Closes bytes n → ((k : ℕ) → k < n → Closes bytes k → ⊥) → ClosesAt bytes n
closes_at bytes n lt c h = record {
  within = omega arith;
  parts = sym (take-append-drop n bytes) ∙ ap (λ t. take n bytes ++ t) (two_at bytes n lt c);
  first = first_close bytes n lt h;
}

-- ---- the last `@` signs

all_before : (bytes : List ℕ) → list_all is_at (bytes ++ 64 ∷ []) ≡ list_all is_at bytes
all_before [] = refl
all_before (b ∷ bytes) = ap (λ t. is_at b && t) (all_before bytes)

not_all : (bytes : List ℕ) (c : ℕ) → is_at c ≡ false → list_all is_at (bytes ++ c ∷ []) ≡ false
not_all [] c e = ap (λ t. t && true) e
not_all (b ∷ bytes) c e = ap (λ t. is_at b && t) (not_all bytes c e) ∙ and_false (is_at b)
  where
    and_false : (x : Bool) → (x && false) ≡ false
    and_false true = refl
    and_false false = refl

pub without_at : (bytes : List ℕ) → without_last_ats (bytes ++ 64 ∷ []) ≡ without_last_ats bytes
without_at [] = refl
without_at (b ∷ bytes) = ap (λ t. cond t [] (b ∷ without_last_ats (bytes ++ 64 ∷ []))) (ap (λ t. is_at b && t) (all_before bytes))
    ∙ ap (λ t. cond (is_at b && list_all is_at bytes) [] (b ∷ t)) (without_at bytes)

pub without_other : (bytes : List ℕ) (c : ℕ) → is_at c ≡ false → without_last_ats (bytes ++ c ∷ []) ≡ bytes ++ c ∷ []
without_other [] c e = ap (λ t. cond (t && true) [] (c ∷ [])) e
without_other (b ∷ bytes) c e =
    ap (λ t. cond t [] (b ∷ without_last_ats (bytes ++ c ∷ []))) (not_all (b ∷ bytes) c e) ∙ ap (λ t. b ∷ t) (without_other bytes c e)

-- the last of the first n bytes
pub last_of : (bytes : List ℕ) (n : ℕ) → 0 < n → n ≤ length bytes → take n bytes ≡ take (n - 1) bytes ++ get_or bytes (n - 1) 0 ∷ []
last_of bytes n lt le = subst (λ m. take m bytes ≡ take (n - 1) bytes ++ get_or bytes (n - 1) 0 ∷ []) (omega arith) (take_more bytes (n - 1) 0 (omega arith))
