-- A numeral is the decimal of the number that it writes.
use Rattle.std.proofs.Common.{◌≡◌, ℕ, ◌+◌, ◌*◌, ◌/◌, ◌%◌, ◌^◌, ◌<◌, ◌≤◌, Bool, true, false, ◌==◌, List, [], ◌∷◌, ◌++◌, length, get_or, decimal, refl, sym, ap, subst, ◌∙◌, append_assoc, arith}
use Rattle.std.proofs.lemmas.Bool.Decides.{nat_tests}
use Rattle.std.proofs.lemmas.List.{append-nil}
use Rattle.std.proofs.Math.Seq.{take-append_seam}
use Rattle.std.specs.Str.Parse.{digits_value}
use Rattle.std.specs.Char.{digit_value}
use Rattle.std.proofs.lemmas.Int.Digits.{digits_value_push}
use Rattle.std.proofs.lemmas.Str.Parse.{digits_value-take-le}
use Rattle.std.proofs.lemmas.Fmt.{decimal_digit, decimal_step_wide}
use Rattle.jd_lex.specs.Bytes.{is_digit, AllOf}
use Rattle.jd_lex.specs.Parts.{MoreDigits, IsNumeral}
use Rattle.jd_lex.proofs.Heads.{digit_range, digit_is}

-- more digits write no smaller number
value_grows : (front more : List ℕ) → digits_value 10 front ≤ digits_value 10 (front ++ more)
value_grows front more = subst (λ t. digits_value 10 t ≤ digits_value 10 (front ++ more)) (take-append_seam front more) (digits_value-take-le 10 (front ++ more) (length front) (omega arith))

one_more : (front : List ℕ) (c : ℕ) → decimal (digits_value 10 front) ≡ front → 0 < digits_value 10 front → is_digit c ≡ true → digits_value 10 (front ++ c ∷ []) < 10 ^ 64
    → decimal (digits_value 10 (front ++ c ∷ [])) ≡ front ++ c ∷ []
one_more front c is some digit small =
    let v = digits_value 10 front in
    let d = digit_value c in
    let r = digit_range c digit in
    let dc = digit_is c digit in
    let n : digits_value 10 (front ++ c ∷ []) ≡ v * 10 + d = digits_value_push 10 front c in
    let low : v * 10 + d < 10 ^ 64 = subst (λ m. m < 10 ^ 64) n small in
    let step = decimal_step_wide (v * 10 + d) (omega (arith, some)) low in
    let high : (v * 10 + d) / 10 ≡ v = omega (arith, dc, r.1) in
    let last : 48 + (v * 10 + d) % 10 ≡ c = omega (arith, dc, r.0, r.1) in
    ap decimal n ∙ (step ∙ (ap (λ m. decimal m ++ (48 + (v * 10 + d) % 10) ∷ []) high ∙ (ap (λ t. t ++ (48 + (v * 10 + d) % 10) ∷ []) is ∙ ap (λ b. front ++ b ∷ []) last)))

more_decimal : (front more : List ℕ) → decimal (digits_value 10 front) ≡ front → 0 < digits_value 10 front → AllOf is_digit more → digits_value 10 (front ++ more) < 10 ^ 64
    → decimal (digits_value 10 (front ++ more)) ≡ front ++ more
more_decimal front [] is some all small = subst (λ t. decimal (digits_value 10 t) ≡ t) (sym (append-nil front)) is
more_decimal front (c ∷ more) is some all small =
    let whole : (front ++ c ∷ []) ++ more ≡ front ++ c ∷ more = append_assoc front (c ∷ []) more in
    let below : digits_value 10 ((front ++ c ∷ []) ++ more) < 10 ^ 64 = subst (λ t. digits_value 10 t < 10 ^ 64) (sym whole) small in
    let grows = value_grows (front ++ c ∷ []) more in
    let grown = value_grows front (c ∷ []) in
    let one = one_more front c is some all.0 (omega (arith, grows, below)) in
    subst (λ t. decimal (digits_value 10 t) ≡ t) whole (more_decimal (front ++ c ∷ []) more one (omega (arith, some, grown)) all.1 below)

first_value : (c : ℕ) → digits_value 10 (c ∷ []) ≡ digit_value c
first_value c = omega arith

one_digit : (c : ℕ) → is_digit c ≡ true → decimal (digits_value 10 (c ∷ [])) ≡ c ∷ []
one_digit c digit =
    let r = digit_range c digit in
    let dc = digit_is c digit in
    let small : digit_value c < 10 = omega (arith, dc, r.1) in
    let same : 48 + digit_value c ≡ c = omega (arith, dc) in
    ap decimal (first_value c) ∙ (decimal_digit (digit_value c) small ∙ ap (λ b. b ∷ []) same)

digits_decimal : (zero : Bool) (c : ℕ) (more rest : List ℕ) → (c == 48) ≡ zero → is_digit c ≡ true → MoreDigits zero more rest → digits_value 10 (c ∷ more) < 10 ^ 64
    → decimal (digits_value 10 (c ∷ more)) ≡ c ∷ more
digits_decimal true c more rest z digit run small = subst (λ t. decimal (digits_value 10 (c ∷ t)) ≡ c ∷ t) (sym run) (one_digit c digit)
digits_decimal false c more rest z digit run small =
    let r = digit_range c digit in
    let dc = digit_is c digit in
    let other : 48 < c = grind (arith, nat_tests, z, r.0) in
    let v = first_value c in
    let some : 0 < digits_value 10 (c ∷ []) = omega (arith, v, dc, other) in
    more_decimal (c ∷ []) more (one_digit c digit) some run.all small

pub numeral_decimal : (text rest : List ℕ) → IsNumeral text rest → is_digit (get_or text 0 0) ≡ true → digits_value 10 text < 10 ^ 64 → decimal (digits_value 10 text) ≡ text
numeral_decimal text rest h digit small =
    let is = h.joined in
    subst (λ t. decimal (digits_value 10 t) ≡ t) (sym is)
    (digits_decimal (h.first == 48) h.first h.more rest refl (subst (λ t. is_digit (get_or t 0 0) ≡ true) is digit) h.run (subst (λ t. digits_value 10 t < 10 ^ 64) is small))
