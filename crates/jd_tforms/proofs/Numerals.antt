-- Digits without a leading zero are the text of their number.
use Rattle.std.proofs.Common.{◌≡◌, ℕ, zero, suc, ◌+◌, ◌*◌, ◌/◌, ◌%◌, ◌<◌, ◌≤◌, List, [], ◌∷◌, ◌++◌, map, true, not, ◌&&◌, ◌||◌, nat_eq, refl, sym, ap, ◌∙◌, subst, true≢false, arith, lit≤}
use Rattle.std.specs.List.{list_all}
use Rattle.std.specs.Char.{digit_value}
use Rattle.std.specs.Int.Digits.{digits_of}
use Rattle.std.specs.Str.Parse.{digits_value}
use Rattle.std.proofs.lemmas.Bool.{and_parts}
use Rattle.std.proofs.lemmas.Bool.Decides.{nat_tests}
use Rattle.std.proofs.lemmas.Int.Digits.{digits_of_step, digits_value_push}
use Rattle.std.proofs.lemmas.List.{map-append, append-nil, append_assoc}
use Rattle.std.proofs.lemmas.Str.{digit_value_digit}
use Rattle.jd_written.specs.Written.{number_text}
use Rattle.jd_tforms.specs.Shapes.{is_digit, is_natural, is_empty}

abbrev glyphs : List ℕ → List ℕ
glyphs ds = map (λ d. 48 + d) ds

some_digits : (n : ℕ) → 0 < n → number_text n ≡ glyphs (digits_of 10 n)
unfolding number_text
some_digits zero lt = absurd (omega arith)
some_digits (suc n) lt = refl

no_digits : number_text 0 ≡ 48 ∷ []
unfolding number_text
no_digits = refl

digits_step : (n : ℕ) → 0 < n → glyphs (digits_of 10 n) ≡ glyphs (digits_of 10 (n / 10)) ++ (48 + n % 10) ∷ []
digits_step n lt = ap glyphs (digits_of_step 10 n (lit≤ tt) lt) ∙ map-append (λ d. 48 + d) (digits_of 10 (n / 10)) (n % 10 ∷ [])

one_digit : (n : ℕ) → n < 10 → number_text n ≡ (48 + n) ∷ []
unfolding number_text
one_digit zero lt = refl
one_digit (suc n) lt =
    let high : suc n / 10 ≡ 0 = omega arith in
    let low : suc n % 10 ≡ suc n = omega arith in
    digits_step (suc n) (omega arith) ∙ (ap (λ k. glyphs (digits_of 10 k) ++ (48 + suc n % 10) ∷ []) high ∙ ap (λ d. (48 + d) ∷ []) low)

more_digits : (n d : ℕ) → 0 < n → d < 10 → number_text (n * 10 + d) ≡ number_text n ++ (48 + d) ∷ []
more_digits n d some lt =
    let high : (n * 10 + d) / 10 ≡ n = omega (arith, some, lt) in
    let low : (n * 10 + d) % 10 ≡ d = omega (arith, some, lt) in
    let all : 0 < n * 10 + d = omega (arith, some) in
    some_digits (n * 10 + d) all ∙ (digits_step (n * 10 + d) all ∙ (ap (λ k. glyphs (digits_of 10 k) ++ (48 + (n * 10 + d) % 10) ∷ []) high
    ∙ (ap (λ r. glyphs (digits_of 10 n) ++ (48 + r) ∷ []) low ∙ ap (λ ds. ds ++ (48 + d) ∷ []) (sym (some_digits n some)))))

digit_range : (c : ℕ) → is_digit c ≡ true → (48 ≤ c) × (c ≤ 57)
digit_range c e = grind (arith, nat_tests, e)

digit_is : (c : ℕ) → is_digit c ≡ true → digit_value c + 48 ≡ c
digit_is c e = let r = digit_range c e in digit_value_digit c r

one_value : (c : ℕ) → digits_value 10 (c ∷ []) ≡ digit_value c
one_value c = omega arith

-- the digits behind others
behind : (front more : List ℕ) → number_text (digits_value 10 front) ≡ front → 0 < digits_value 10 front → list_all is_digit more ≡ true →
    number_text (digits_value 10 (front ++ more)) ≡ front ++ more
behind front [] is some all = subst (λ w. number_text (digits_value 10 w) ≡ w) (sym (append-nil front)) is
behind front (c ∷ more) is some all =
    let h = and_parts (is_digit c) (list_all is_digit more) all in
    let dc = digit_is c h.0 in
    let r = digit_range c h.0 in
    let small : digit_value c < 10 = omega (arith, dc, r.1) in
    let pushed = digits_value_push 10 front c in
    let now : number_text (digits_value 10 (front ++ c ∷ [])) ≡ front ++ c ∷ [] =
    ap number_text pushed ∙ (more_digits (digits_value 10 front) (digit_value c) some small
    ∙ (ap (λ w. w ++ (48 + digit_value c) ∷ []) is ∙ ap (λ b. front ++ b ∷ []) (omega (arith, dc)))) in
    let grown : 0 < digits_value 10 (front ++ c ∷ []) = omega (arith, some, pushed) in
    subst (λ w. number_text (digits_value 10 w) ≡ w) (append_assoc front (c ∷ []) more) (behind (front ++ c ∷ []) more now grown h.1)

pub numeral : (w : List ℕ) → is_natural w ≡ true → number_text (digits_value 10 w) ≡ w
numeral [] e = absurd (true≢false (sym e))
numeral (c ∷ more) e =
    let h = and_parts (is_digit c && list_all is_digit more) (not (nat_eq c 48) || is_empty more) e in
    let g = and_parts (is_digit c) (list_all is_digit more) h.0 in
    let dc = digit_is c g.0 in
    let r = digit_range c g.0 in
    let small : digit_value c < 10 = omega (arith, dc, r.1) in
    let one : number_text (digits_value 10 (c ∷ [])) ≡ c ∷ [] =
    ap number_text (one_value c) ∙ (one_digit (digit_value c) small ∙ ap (λ b. b ∷ []) (omega (arith, dc))) in
    by more g.1 h.1 one dc
  where
    by : (more : List ℕ) → list_all is_digit more ≡ true → (not (nat_eq c 48) || is_empty more) ≡ true → number_text (digits_value 10 (c ∷ [])) ≡ c ∷ [] → digit_value c + 48 ≡ c →
        number_text (digits_value 10 (c ∷ more)) ≡ c ∷ more
    by [] all first one dc = one
    by (d ∷ ds) all first one dc =
        let v = one_value c in
        let other : 0 < digit_value c = grind (arith, nat_tests, first, dc) in
        behind (c ∷ []) (d ∷ ds) one (omega (arith, v, other)) all
