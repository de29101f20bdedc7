-- The number that digits write, digit by digit.
use Rattle.std.proofs.Common.{◌≡◌, ℕ, zero, suc, ◌+◌, ◌-◌, ◌*◌, ◌/◌, ◌^◌, ◌-ℤ◌, to_z, of_z, FitsSigned, ◌<◌, ◌≤◌, List, [], ◌∷◌, length, take, drop, get_or, Bool, true, false, ◌&&◌, nat_lt, nat_eq, cond, ℤ, pos, negsuc, Option, Some, None, option_map, refl, sym, ap, ◌∙◌, subst, true≢false, arith}
use Rattle.std.specs.List.{list_all}
use Rattle.std.specs.Char.{digit_value}
use Rattle.std.specs.Int.{w32, w128}
use Rattle.std.specs.Option.{option_and_then}
use Rattle.std.specs.Str.Parse.{digits_value}
use Rattle.std.proofs.lemmas.Bool.{and_parts}
use Rattle.std.proofs.lemmas.Bool.Decides.{nat_tests}
use Rattle.std.proofs.lemmas.Int.{to_z-of_z, to_z_pos}
use Rattle.std.proofs.lemmas.Int.Digits.{digits_value_more}
use Rattle.std.proofs.lemmas.List.{take_all}
use Rattle.std.proofs.lemmas.Str.{digit_value_digit}
use Rattle.std.proofs.lemmas.Str.Parse.{digits_value-take-le}
use Rattle.jd_tforms.specs.Shapes.{is_digit, is_natural, natural_of, minus, is_below, signed_of, integer_of, narrow}
use Rattle.jd_twords.specs.Numbers.{natural_below, negative_below}

pub each : (test : ℕ → Bool) (bytes : List ℕ) → list_all test bytes ≡ true → (k : ℕ) → k < length bytes → test (get_or bytes k 0) ≡ true
each test [] h k lt = let no : ⊥ = omega arith in absurd no
each test (b ∷ bytes) h zero lt = (and_parts (test b) (list_all test bytes) h).0
each test (b ∷ bytes) h (suc k) lt = each test bytes (and_parts (test b) (list_all test bytes) h).1 k (omega arith)

pub digit_range : (c : ℕ) → is_digit c ≡ true → (48 ≤ c) × (c ≤ 57)
digit_range c e = grind (arith, nat_tests, e)

pub value_more : (digits : List ℕ) (i v d : ℕ) → list_all is_digit digits ≡ true → i < length digits → v ≡ digits_value 10 (take i digits) → d ≡ get_or digits i 0 - 48
    → v * 10 + d ≡ digits_value 10 (take (i + 1) digits)
value_more digits i v d h lt is e =
    let low = digit_range (get_or digits i 0) (each is_digit digits h i lt) in
    let k = digit_value_digit (get_or digits i 0) low in
    let same : d ≡ digit_value (get_or digits i 0) = omega (arith, k, e, low.0) in
    sym (digits_value_more 10 digits i lt ∙ (ap (λ m. m * 10 + digit_value (get_or digits i 0)) (sym is) ∙ ap (λ m. v * 10 + m) (sym same)))

pub too_big : (digits : List ℕ) (i v bound : ℕ) → v ≡ digits_value 10 (take i digits) → bound < v → bound < digits_value 10 digits
too_big digits i v bound is lt = let le = digits_value-take-le 10 digits i (omega arith) in omega (arith, le, is, lt)

pub soon_too_big : (digits : List ℕ) (i v bound : ℕ) → i < length digits → v ≡ digits_value 10 (take i digits) → bound / 10 < v → bound < digits_value 10 digits
soon_too_big digits i v bound lt is big =
    let le = digits_value-take-le 10 digits (i + 1) (omega arith) in
    let more = digits_value_more 10 digits i lt in
    let low : bound < v * 10 = omega (arith, big) in
    omega (arith, le, more, is, low)

-- ---- numbers below a limit

pub no_natural : (limit : ℕ) (w : List ℕ) → is_natural w ≡ false → None ≡ natural_below limit w
no_natural limit w e = rw e refl

pub natural_digits : (w : List ℕ) → is_natural w ≡ true → list_all is_digit w ≡ true
natural_digits [] e = absurd (true≢false (sym e))
natural_digits (b ∷ bs) e = (and_parts (is_digit b && list_all is_digit bs) _ e).0

below : (w : List ℕ) (limit : ℕ) → is_natural w ≡ true → natural_below limit w ≡ cond (nat_lt (digits_value 10 w) limit) (Some (digits_value 10 w)) None
below w limit e = rw e refl

pub natural_above : (limit : ℕ) (w : List ℕ) → is_natural w ≡ true → 0 < limit → limit - 1 < digits_value 10 w → None ≡ natural_below limit w
natural_above limit w e some lt =
    let not : nat_lt (digits_value 10 w) limit ≡ false = grind (arith, nat_tests, some, lt) in
    sym (below w limit e ∙ ap (λ b. cond b (Some (digits_value 10 w)) None) not)

pub natural_within : (limit v : ℕ) (w : List ℕ) → is_natural w ≡ true → 0 < limit → v ≡ digits_value 10 w → v ≤ limit - 1 → Some v ≡ natural_below limit w
natural_within limit v w e some is le =
    let lt : nat_lt (digits_value 10 w) limit ≡ true = grind (arith, nat_tests, some, is, le) in
    ap Some is ∙ sym (below w limit e ∙ ap (λ b. cond b (Some (digits_value 10 w)) None) lt)

-- ---- integers

pub minus_some : (n : ℕ) → 0 < n → minus n ≡ Some (negsuc (n - 1))
minus_some zero lt = absurd (omega arith)
minus_some (suc k) lt = let same : k ≡ suc k - 1 = omega arith in ap (λ m. Some (negsuc m)) same

pub negative_is : (limit n : ℕ) (w : List ℕ) (z : Option ℤ) → Some n ≡ natural_below (limit + 1) w → z ≡ minus n → z ≡ negative_below limit w
negative_is limit n w z e is = is ∙ ap (option_and_then minus) e

pub no_negative : (limit : ℕ) (w : List ℕ) → None ≡ natural_below (limit + 1) w → None ≡ negative_below limit w
no_negative limit w e = ap (option_and_then minus) e

by_test : (n limit : ℕ) (b : Bool) → nat_lt n limit ≡ b → (k : ℕ) → Some k ≡ cond b (Some n) None → k < limit
by_test n limit true e k is = let same : k ≡ n = cc in grind (arith, nat_tests, e, same)
by_test n limit false e k is = absurd cc

pub under_limit : (limit n : ℕ) (w : List ℕ) → Some n ≡ natural_below limit w → n < limit
under_limit limit n w e = by (natural_of w) e
  where
    by : (o : Option ℕ) → Some n ≡ option_and_then (λ k. cond (nat_lt k limit) (Some k) None) o → n < limit
    by None is = absurd cc
    by (Some k) is = by_test k limit (nat_lt k limit) refl n is

test_some : (k limit : ℕ) → nat_lt k limit ≡ nat_lt (suc k) (limit + 1)
test_some k limit = by (nat_lt k limit) refl
  where
    by : (b : Bool) → nat_lt k limit ≡ b → b ≡ nat_lt (suc k) (limit + 1)
    by true e = grind (arith, nat_tests, e)
    by false e = grind (arith, nat_tests, e)

test_none : (limit : ℕ) → nat_lt 0 (limit + 1) ≡ true
test_none limit = grind (arith, nat_tests)

behind_minus : (limit : ℕ) (o : Option ℕ) → option_and_then (λ z. cond (is_below limit z) (Some z) None) (option_and_then minus o) ≡ option_and_then minus (option_and_then (λ n. cond (nat_lt n (limit + 1)) (Some n) None) o)
behind_minus limit None = refl
behind_minus limit (Some zero) = ap (λ b. option_and_then minus (cond b (Some 0) None)) (sym (test_none limit))
behind_minus limit (Some (suc k)) = by (nat_lt k limit) ∙ ap (λ b. option_and_then minus (cond b (Some (suc k)) None)) (test_some k limit)
  where
    by : (b : Bool) → cond b (Some (negsuc k)) None ≡ option_and_then minus (cond b (Some (suc k)) None)
    by true = refl
    by false = refl

minus_one : (m : ℕ) → negsuc 0 -ℤ pos m ≡ negsuc m
minus_one zero = refl
minus_one (suc m) = ap (λ k. negsuc (suc k)) (omega arith)

pub negated_is : (n : ℕ) → 0 < n → n ≤ 2 ^ 127 → to_z w128 (of_z w128 (negsuc 0 -ℤ to_z w128 (n - 1))) ≡ negsuc (n - 1)
negated_is n some le =
    let low : n - 1 < 2 ^ 127 = omega (arith, some, le) in
    ap (λ v. to_z w128 (of_z w128 (negsuc 0 -ℤ v))) (to_z_pos w128 (n - 1) low)
    ∙ (ap (λ v. to_z w128 (of_z w128 v)) (minus_one (n - 1)) ∙ to_z-of_z w128 (negsuc (n - 1)) (grind (arith, low)))

pub integer_negative : (limit : ℕ) (w : List ℕ) → integer_of limit (45 ∷ w) ≡ negative_below limit w
integer_negative limit w = behind_minus limit (natural_of w)

without_minus : (limit : ℕ) (o : Option ℕ) → option_and_then (λ z. cond (is_below limit z) (Some z) None) (option_map pos o) ≡ option_map pos (option_and_then (λ n. cond (nat_lt n limit) (Some n) None) o)
without_minus limit None = refl
without_minus limit (Some k) = by (nat_lt k limit)
  where
    by : (b : Bool) → cond b (Some (pos k)) None ≡ option_map pos (cond b (Some k) None)
    by true = refl
    by false = refl

pub integer_positive : (limit b : ℕ) (w : List ℕ) → nat_eq b 45 ≡ false → integer_of limit (b ∷ w) ≡ option_map pos (natural_below limit (b ∷ w))
integer_positive limit b w e =
    ap (λ t. option_and_then (λ z. cond (is_below limit z) (Some z) None) (cond t (option_and_then minus (natural_of w)) (option_map pos (natural_of (b ∷ w))))) e
    ∙ without_minus limit (natural_of (b ∷ w))

pub behind_sign : (limit : ℕ) (w : List ℕ) (r : Option ℤ) → 1 ≤ length w → get_or w 0 0 ≡ 45 → r ≡ negative_below limit (take (length w - 1) (drop 1 w)) → r ≡ integer_of limit w
behind_sign limit [] r le e is = absurd (omega arith)
behind_sign limit (b ∷ w) r le e is =
    let whole : length w ≤ length (b ∷ w) - 1 = omega arith in
    is ∙ (ap (negative_below limit) (take_all (length (b ∷ w) - 1) w whole) ∙ (sym (integer_negative limit w) ∙ ap (λ a. integer_of limit (a ∷ w)) (sym e)))

-- ---- literals of code

fits : (z : ℤ) → is_below narrow z ≡ true → FitsSigned w32 z
fits (pos k) e = grind (arith, nat_tests, e)
fits (negsuc k) e = grind (arith, nat_tests, e)

within : (limit : ℕ) (o : Option ℤ) (z : ℤ) → Some z ≡ option_and_then (λ y. cond (is_below limit y) (Some y) None) o → is_below limit z ≡ true
within limit None z e = absurd cc
within limit (Some y) z e = by (is_below limit y) refl e
  where
    by : (b : Bool) → is_below limit y ≡ b → Some z ≡ cond b (Some y) None → is_below limit z ≡ true
    by true is same = let at : z ≡ y = cc in ap (is_below limit) at ∙ is
    by false is same = absurd cc

fits_wide : (z : ℤ) → is_below narrow z ≡ true → FitsSigned w128 z
fits_wide (pos k) e = grind (arith, nat_tests, e)
fits_wide (negsuc k) e = grind (arith, nat_tests, e)

-- what is read of 128 bits, where it is a literal of 32
wide_back : (w : List ℕ) (z : ℤ) → Some z ≡ integer_of narrow w → to_z w128 (of_z w128 z) ≡ z
wide_back w z e = to_z-of_z w128 z (fits_wide z (within narrow (signed_of w) z e))

pub literal_fits : (w : List ℕ) (z : ℤ) → Some z ≡ integer_of narrow w → FitsSigned w32 (to_z w128 (of_z w128 z))
literal_fits w z e = subst (FitsSigned w32) (sym (wide_back w z e)) (fits z (within narrow (signed_of w) z e))

pub literal_is : (w : List ℕ) (z : ℤ) → Some z ≡ integer_of narrow w → Some (to_z w32 (of_z w32 (to_z w128 (of_z w128 z)))) ≡ integer_of narrow w
literal_is w z e = ap (λ y. Some (to_z w32 (of_z w32 y))) (wide_back w z e) ∙ (ap Some (to_z-of_z w32 z (fits z (within narrow (signed_of w) z e))) ∙ e)
