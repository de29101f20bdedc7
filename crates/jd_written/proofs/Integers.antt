-- Decimal digits: they are those of std, a word, and tell the integer.
use Rattle.std.proofs.Common.{◌≡◌, ◌≢◌, ℕ, zero, suc, ◌+◌, ◌/◌, ◌%◌, ◌^◌, ◌<◌, ◌≤◌, ℤ, pos, negsuc, FitsSigned, List, [], ◌∷◌, ◌++◌, length, map, true, refl, sym, ap, ◌∙◌, inr, arith, lit≤}
use Rattle.std.specs.Fmt.{decimal, signed_decimal}
use Rattle.std.specs.Int.{w128}
use Rattle.std.specs.Char.{digit_value}
use Rattle.std.specs.Int.Digits.{digits_of, number_from_digits, AllBelowBase}
use Rattle.std.specs.Str.Parse.{digits_value}
use Rattle.std.proofs.lemmas.Fmt.{decimal_by_steps_wide}
use Rattle.std.proofs.lemmas.Int.Digits.{digits_of_step, length-digits_of_step, all_below_base_digits_of, number_digits_of, digits_value_is}
use Rattle.std.proofs.lemmas.List.{map-append, length-map}
use Rattle.jd_bracketed.specs.Bytes.{is_word_byte}
use Rattle.jd_bracketed.specs.Tokens.{Word}
use Rattle.jd_bracketed.specs.Texts.{AllOfWords}
use Rattle.jd_written.specs.Written.{IsPlainWord, IsWritable, number_text, integer_text}

abbrev glyphs : List ℕ → List ℕ
glyphs ds = map (λ d. 48 + d) ds

some_digits : (n : ℕ) → 0 < n → number_text n ≡ glyphs (digits_of 10 n)
unfolding number_text
some_digits zero lt = absurd (omega arith)
some_digits (suc n) lt = refl

no_digits : number_text 0 ≡ 48 ∷ []
unfolding number_text
no_digits = refl

digits_step : (n : ℕ) → 0 < n → glyphs (digits_of 10 n) ≡ glyphs (digits_of 10 (n / 10)) ++ (48 + n % 10) ∷ []
digits_step n lt = ap glyphs (digits_of_step 10 n (lit≤ tt) lt) ∙ map-append (λ d. 48 + d) (digits_of 10 (n / 10)) (n % 10 ∷ [])

-- ---- the digits of std

one_digit : (n : ℕ) → n < 10 → (48 + n) ∷ [] ≡ number_text n
unfolding number_text
one_digit zero lt = refl
one_digit (suc n) lt =
    let high : suc n / 10 ≡ 0 = omega arith in
    let low : suc n % 10 ≡ suc n = omega arith in
    sym (digits_step (suc n) (omega arith) ∙ (ap (λ k. glyphs (digits_of 10 k) ++ (48 + suc n % 10) ∷ []) high ∙ ap (λ d. (48 + d) ∷ []) low))

more_digits : (n : ℕ) (ds : List ℕ) → 10 ≤ n → ds ≡ number_text (n / 10) → ds ++ (48 + n % 10) ∷ [] ≡ number_text n
more_digits n ds le e =
    ap (λ front. front ++ (48 + n % 10) ∷ []) (e ∙ some_digits (n / 10) (omega arith)) ∙ (sym (digits_step n (omega arith)) ∙ sym (some_digits n (omega arith)))

pub decimal_is : (n : ℕ) → n < 10 ^ 64 → decimal n ≡ number_text n
decimal_is n lt = decimal_by_steps_wide (λ m ds. ds ≡ number_text m) one_digit more_digits n lt

pub signed_is : (z : ℤ) → FitsSigned w128 z → signed_decimal z ≡ integer_text z
signed_is (pos n) h = let fits = h.sfits in decimal_is n (omega arith)
signed_is (negsuc n) h = let fits = h.sfits in ap (λ ds. 45 ∷ ds) (decimal_is (suc n) (omega arith))

-- ---- words

digit_part : (d : ℕ) → d < 10 → is_word_byte (48 + d) ≡ true
digit_part zero lt = refl
digit_part (suc zero) lt = refl
digit_part (suc (suc zero)) lt = refl
digit_part (suc (suc (suc zero))) lt = refl
digit_part (suc (suc (suc (suc zero)))) lt = refl
digit_part (suc (suc (suc (suc (suc zero))))) lt = refl
digit_part (suc (suc (suc (suc (suc (suc zero)))))) lt = refl
digit_part (suc (suc (suc (suc (suc (suc (suc zero))))))) lt = refl
digit_part (suc (suc (suc (suc (suc (suc (suc (suc zero)))))))) lt = refl
digit_part (suc (suc (suc (suc (suc (suc (suc (suc (suc zero))))))))) lt = refl
digit_part (suc (suc (suc (suc (suc (suc (suc (suc (suc (suc n)))))))))) lt = absurd (omega arith)

glyphs_parts : (ds : List ℕ) → AllBelowBase 10 ds → AllOfWords (glyphs ds)
glyphs_parts [] h = tt
glyphs_parts (d ∷ ds) h = (digit_part d h.0, glyphs_parts ds h.1)

no_nil : (xs : List ℕ) → 0 < length xs → xs ≢ []
no_nil xs lt e = omega (arith, ap length e)

number_run : (n : ℕ) → IsPlainWord (number_text n)
unfolding number_text
number_run zero = record { some = λ e. absurd cc; parts = (refl, tt) }
number_run (suc n) = record {
  some = no_nil (glyphs (digits_of 10 (suc n))) (omega (arith, length-map (digits_of 10 (suc n)) (λ d. 48 + d), length-digits_of_step 10 (suc n) (lit≤ tt) (omega arith)));
  parts = glyphs_parts (digits_of 10 (suc n)) (all_below_base_digits_of 10 (suc n) (lit≤ tt));
}

pub integer_word : (z : ℤ) → IsWritable (Word (integer_text z))
integer_word (pos n) = inr (number_run n)
integer_word (negsuc n) = inr record { some = λ e. absurd cc; parts = (refl, (number_run (suc n)).parts) }

-- ---- what the digits tell

digit_is : (d : ℕ) → d < 10 → digit_value (48 + d) ≡ d
digit_is zero lt = refl
digit_is (suc zero) lt = refl
digit_is (suc (suc zero)) lt = refl
digit_is (suc (suc (suc zero))) lt = refl
digit_is (suc (suc (suc (suc zero)))) lt = refl
digit_is (suc (suc (suc (suc (suc zero))))) lt = refl
digit_is (suc (suc (suc (suc (suc (suc zero)))))) lt = refl
digit_is (suc (suc (suc (suc (suc (suc (suc zero))))))) lt = refl
digit_is (suc (suc (suc (suc (suc (suc (suc (suc zero)))))))) lt = refl
digit_is (suc (suc (suc (suc (suc (suc (suc (suc (suc zero))))))))) lt = refl
digit_is (suc (suc (suc (suc (suc (suc (suc (suc (suc (suc n)))))))))) lt = absurd (omega arith)

values : (ds : List ℕ) → AllBelowBase 10 ds → map digit_value (glyphs ds) ≡ ds
values [] h = refl
values (d ∷ ds) h = ap (λ e. e ∷ map digit_value (glyphs ds)) (digit_is d h.0) ∙ ap (λ es. d ∷ es) (values ds h.1)

-- the number that the digits are read as
pub number_value : (n : ℕ) → digits_value 10 (number_text n) ≡ n
unfolding number_text
number_value zero = refl
number_value (suc n) =
    let ds = digits_of 10 (suc n) in
    digits_value_is 10 (glyphs ds) ∙ (ap (number_from_digits 10) (values ds (all_below_base_digits_of 10 (suc n) (lit≤ tt))) ∙ number_digits_of 10 (suc n) (lit≤ tt))

pub one_number : (m n : ℕ) → number_text m ≡ number_text n → m ≡ n
one_number m n e = sym (number_value m) ∙ (ap (digits_value 10) e ∙ number_value n)

head_is : (a b : ℕ) (xs ys : List ℕ) → a ∷ xs ≡ b ∷ ys → a ≡ b
head_is a b xs ys e = cc

glyphs_no_minus : (ds rest : List ℕ) → glyphs ds ≡ 45 ∷ rest → ⊥
glyphs_no_minus [] rest e = absurd cc
glyphs_no_minus (d ∷ ds) rest e = omega (arith, head_is (48 + d) 45 (glyphs ds) rest e)

-- no digits begin with `-`
no_minus : (n : ℕ) (rest : List ℕ) → number_text n ≡ 45 ∷ rest → ⊥
no_minus zero rest e = omega (arith, head_is 48 45 [] rest (sym no_digits ∙ e))
no_minus (suc n) rest e = glyphs_no_minus (digits_of 10 (suc n)) rest (sym (some_digits (suc n) (omega arith)) ∙ e)

tail_same : (b : ℕ) (xs ys : List ℕ) → b ∷ xs ≡ b ∷ ys → xs ≡ ys
tail_same b xs ys e = cc

pub one_integer : (y z : ℤ) → integer_text y ≡ integer_text z → y ≡ z
one_integer (pos m) (pos n) e = ap pos (one_number m n e)
one_integer (pos m) (negsuc n) e = absurd (no_minus m (number_text (suc n)) e)
one_integer (negsuc m) (pos n) e = absurd (no_minus n (number_text (suc m)) (sym e))
one_integer (negsuc m) (negsuc n) e = ap negsuc (omega (arith, one_number (suc m) (suc n) (tail_same 45 (number_text (suc m)) (number_text (suc n)) e)))
