-- How many bytes at the head of a text are of a kind, as the code's functions answer it.
use Rattle.std.specs.Prelude.{◌≡◌, ◌⊎◌, ℕ, ◌+◌, ◌≤◌, List, [], ◌∷◌, ◌++◌, length, take, drop, Bool}
use Rattle.jd_lex.specs.Signs.{Listed, BeginsWith}
use Rattle.jd_lex.specs.Bytes.{is_white, is_digit, is_word_byte, is_at, in_line}
use Rattle.jd_lex.specs.Parts.{NoClose}
use Rattle.jd_lex.specs.declared.runs.ByteKind.{ByteKind}
use Rattle.jd_lex.specs.declared.runs.ByteKind.TheVariants as kinds

abbrev pub test_of : ByteKind → ℕ → Bool
test_of kinds.White b = is_white b
test_of kinds.WordByte b = is_word_byte b
test_of kinds.Digit b = is_digit b
test_of kinds.InLine b = in_line b
test_of kinds.AtSign b = is_at b

-- the first n bytes, where the others follow them, are so
pub record Head (Is : List ℕ → List ℕ → Type 0) (bytes : List ℕ) (n : ℕ) : Type 0 where
  pub within : n ≤ length bytes
  pub is : Is (take n bytes) (drop n bytes)

-- the longest sign of a table at the head of the bytes has that length; 0 where none stands there
pub record LongestLen (table : List (List ℕ)) (bytes : List ℕ) (n : ℕ) : Type 0 where
  pub within : n ≤ length bytes
  pub listed : (n ≡ 0) ⊎ Listed (take n bytes) table
  pub longest : (sign : List ℕ) → Listed sign table → BeginsWith sign bytes → length sign ≤ n

-- the longer of the sign, where it stands there, and what was found before
abbrev pub Longer : List ℕ → List ℕ → ℕ → ℕ → Type 0
Longer sign bytes best n =
    ((n ≡ best) × (BeginsWith sign bytes → length sign ≤ best))
    ⊎ ((n ≡ length sign) × (best ≤ length sign) × BeginsWith sign bytes)

-- the first `*/` of the bytes stands behind n of them
pub record ClosesAt (bytes : List ℕ) (n : ℕ) : Type 0 where
  pub within : n + 2 ≤ length bytes
  pub parts : bytes ≡ take n bytes ++ 42 ∷ 47 ∷ drop (n + 2) bytes
  pub first : NoClose (take n bytes ++ 42 ∷ [])
