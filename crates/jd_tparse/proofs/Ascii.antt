-- The bytes of names are ASCII.
use Rattle.std.proofs.Common.{◌≡◌, ℕ, zero, suc, ◌<◌, Bool, true, false, not, cond, ◌||◌, nat_eq, nat_lt, List, [], ◌∷◌, ◌++◌, Some, refl, sym, ap, subst, true≢false, arith}
use Rattle.std.specs.List.{list_all}
use Rattle.std.specs.Str.{IsAscii}
use Rattle.std.proofs.lemmas.Bool.{and_parts}
use Rattle.std.proofs.lemmas.Bool.Decides.{nat_tests}
use Rattle.std.proofs.lemmas.Option.{none-some, same_Some}
use Rattle.jd_tgrammar.specs.NameTables.{NameTable}
use Rattle.jd_tforms.specs.Naming.{parted}
use Rattle.jd_tforms.specs.Shapes.{is_digit, is_letter, is_name, is_name_byte, is_special_byte, is_within}
use Rattle.jd_names.proofs.Letters.{same_byte}

or_then : {P : Type 0} (x y : Bool) → (x || y) ≡ true → (x ≡ true → P) → (y ≡ true → P) → P
or_then true y h f g = f refl
or_then false y h f g = g h

within_bound : (low high b : ℕ) → high < 128 → is_within low high b ≡ true → b < 128
within_bound low high b few h =
    let least = (and_parts (not (nat_lt b low)) (not (nat_lt high b)) h).1 in
    grind (arith, nat_tests, least, few)

is_at : (b n : ℕ) → n < 128 → nat_eq b n ≡ true → b < 128
is_at b n few h = let same = same_byte b n h in omega (arith, same, few)

letter_ascii : (b : ℕ) → is_letter b ≡ true → b < 128
letter_ascii b h = or_then (is_within 97 122 b) (is_within 65 90 b) h (within_bound 97 122 b (omega arith)) (within_bound 65 90 b (omega arith))

special_ascii : (b : ℕ) → is_special_byte b ≡ true → b < 128
special_ascii b h =
    or_then (((is_letter b || is_digit b) || nat_eq b 95) || nat_eq b 36) (nat_eq b 126) h
    (λ h. or_then ((is_letter b || is_digit b) || nat_eq b 95) (nat_eq b 36) h
    (λ h. or_then (is_letter b || is_digit b) (nat_eq b 95) h
    (λ h. or_then (is_letter b) (is_digit b) h (letter_ascii b) (within_bound 48 57 b (omega arith)))
    (is_at b 95 (omega arith)))
    (is_at b 36 (omega arith)))
    (is_at b 126 (omega arith))

within_ascii : (b : ℕ) → is_name_byte b ≡ true → b < 128
within_ascii b h =
    or_then (((is_special_byte b || nat_eq b 39) || nat_eq b 46) || nat_eq b 64) (nat_eq b 35) h
    (λ h. or_then ((is_special_byte b || nat_eq b 39) || nat_eq b 46) (nat_eq b 64) h
    (λ h. or_then (is_special_byte b || nat_eq b 39) (nat_eq b 46) h
    (λ h. or_then (is_special_byte b) (nat_eq b 39) h (special_ascii b) (is_at b 39 (omega arith)))
    (is_at b 46 (omega arith)))
    (is_at b 64 (omega arith)))
    (is_at b 35 (omega arith))

pub are_ascii : (w : List ℕ) → list_all is_name_byte w ≡ true → IsAscii w
are_ascii [] h i = omega arith
are_ascii (b ∷ bs) h zero = within_ascii b (and_parts (is_name_byte b) (list_all is_name_byte bs) h).0
are_ascii (b ∷ bs) h (suc i) = are_ascii bs (and_parts (is_name_byte b) (list_all is_name_byte bs) h).1 i

-- of the parts of a name
pub behind_is_named : (names : NameTable) (front w c n : List ℕ) → list_all is_name_byte w ≡ true → parted names front w ≡ Some (c, n) → list_all is_name_byte n ≡ true
behind_is_named names front [] c n h e = absurd (none-some (c, n) e)
behind_is_named names front (b ∷ bs) c n h e =
    let rest = (and_parts (is_name_byte b) (list_all is_name_byte bs) h).1 in
    by (nat_eq b 46) rest (behind_is_named names (front ++ b ∷ []) bs c n rest) e
  where
    by : (t : Bool) → list_all is_name_byte bs ≡ true → (parted names (front ++ b ∷ []) bs ≡ Some (c, n) → list_all is_name_byte n ≡ true) → cond t (Some (front, bs)) (parted names (front ++ b ∷ []) bs) ≡ Some (c, n) → list_all is_name_byte n ≡ true
    by true rest further e = subst (λ (m : List ℕ). list_all is_name_byte m ≡ true) (ap (λ (q : List ℕ × List ℕ). q.1) (same_Some (front, bs) (c, n) e)) rest
    by false rest further e = further e

pub name_bytes : (w : List ℕ) → is_name w ≡ true → list_all is_name_byte w ≡ true
name_bytes [] h = absurd (true≢false (sym h))
name_bytes (b ∷ bs) h = (and_parts (not (is_digit b)) (list_all is_name_byte (b ∷ bs)) h).1
