-- The shapes of words.
use Rattle.std.specs.Prelude.{ℕ, zero, suc, ℤ, pos, negsuc, List, [], ◌∷◌, Bool, true, false, not, nat_lt, cond, ◌==◌, ◌&&◌, ◌||◌, Option, Some, None, option_map}
use Rattle.std.specs.List.{list_all}
use Rattle.std.specs.Option.{option_and_then}
use Rattle.std.specs.Str.Parse.{digits_value}

abbrev pub is_within : ℕ → ℕ → ℕ → Bool
is_within low high b = not (nat_lt b low) && not (nat_lt high b)

abbrev pub is_digit : ℕ → Bool
is_digit b = is_within 48 57 b

abbrev pub is_letter : ℕ → Bool
is_letter b = is_within 97 122 b || is_within 65 90 b

-- what may follow the sort's letter of a special name: letters, digits and `_ $ ~`
abbrev pub is_special_byte : ℕ → Bool
is_special_byte b = is_letter b || is_digit b || (b == 95) || (b == 36) || (b == 126)

-- the same and `' . @ #`
abbrev pub is_name_byte : ℕ → Bool
is_name_byte b = is_special_byte b || (b == 39) || (b == 46) || (b == 64) || (b == 35)

-- a name: a word of such bytes that does not begin with a digit
abbrev pub is_name : List ℕ → Bool
is_name [] = false
is_name (b ∷ bs) = not (is_digit b) && list_all is_name_byte (b ∷ bs)

-- ---- numbers, without leading zeros

abbrev pub is_empty : List ℕ → Bool
is_empty [] = true
is_empty (b ∷ bs) = false

-- digits, of which a zero does not begin others
abbrev pub is_natural : List ℕ → Bool
is_natural [] = false
is_natural (b ∷ bs) = is_digit b && list_all is_digit bs && (not (b == 48) || is_empty bs)

abbrev pub natural_of : List ℕ → Option ℕ
natural_of w = cond (is_natural w) (Some (digits_value 10 w)) None

-- those of rules and labels have at most nine digits, and 0 is none of them
abbrev pub is_number : ℕ → Bool
is_number n = nat_lt 0 n && nat_lt n 1000000000

abbrev pub number_of : List ℕ → Option ℕ
number_of w = option_and_then (λ n. cond (is_number n) (Some n) None) (natural_of w)

-- the number of a loop or of a binder, which may be 0, has as many at most
abbrev pub loop_of : List ℕ → Option ℕ
loop_of w = option_and_then (λ n. cond (nat_lt n 1000000000) (Some n) None) (natural_of w)

-- `%k`
abbrev pub bound_number : List ℕ → Option ℕ
bound_number [] = None
bound_number (b ∷ bs) = cond (b == 37) (loop_of bs) None

-- `lN`
abbrev pub label_of : List ℕ → Option ℕ
label_of [] = None
label_of (b ∷ bs) = cond (b == 108) (number_of bs) None

-- whether the integer is at least -n and less than n
abbrev pub is_below : ℕ → ℤ → Bool
is_below n (pos k) = nat_lt k n
is_below n (negsuc k) = nat_lt k n

-- there is no `-0`
abbrev pub minus : ℕ → Option ℤ
minus zero = None
minus (suc n) = Some (negsuc n)

abbrev pub signed_of : List ℕ → Option ℤ
signed_of [] = None
signed_of (b ∷ bs) = cond (b == 45) (option_and_then minus (natural_of bs)) (option_map pos (natural_of (b ∷ bs)))

-- the integer that is written so, if it is one from -n up to but without n
abbrev pub integer_of : ℕ → List ℕ → Option ℤ
integer_of n w = option_and_then (λ z. cond (is_below n z) (Some z) None) (signed_of w)

-- 128 signed bits, and 32
abbrev pub wide : ℕ
wide = 170141183460469231731687303715884105728

abbrev pub narrow : ℕ
narrow = 2147483648
