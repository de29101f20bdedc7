-- Kinds of bytes, and runs of bytes of one kind.
use Rattle.std.specs.Prelude.{◌≡◌, ℕ, List, [], ◌∷◌, Bool, true, false, not, nat_le, ◌==◌, ◌&&◌, ◌||◌}

abbrev pub from_to : ℕ → ℕ → ℕ → Bool
from_to low high b = nat_le low b && nat_le b high

-- space, tab, line feed, carriage return, form feed (JLS 3.6)
abbrev pub is_white : ℕ → Bool
is_white b = (b == 32) || (b == 9) || (b == 10) || (b == 13) || (b == 12)

-- line feed, carriage return (JLS 3.4)
abbrev pub ends_line : ℕ → Bool
ends_line b = (b == 10) || (b == 13)

abbrev pub is_digit : ℕ → Bool
is_digit b = from_to 48 57 b

abbrev pub is_letter : ℕ → Bool
is_letter b = from_to 65 90 b || from_to 97 122 b

-- a letter, a low line, a dollar sign: what a word may begin with (JLS 3.8)
abbrev pub begins_word : ℕ → Bool
begins_word b = is_letter b || (b == 95) || (b == 36)

abbrev pub is_word_byte : ℕ → Bool
is_word_byte b = begins_word b || is_digit b

-- the sign `@`
abbrev pub is_at : ℕ → Bool
is_at b = b == 64

abbrev pub in_line : ℕ → Bool
in_line b = not (ends_line b)

-- each of the bytes passes the test
abbrev pub AllOf : (ℕ → Bool) → List ℕ → Type 0
AllOf test [] = Unit {0}
AllOf test (b ∷ bytes) = (test b ≡ true) × AllOf test bytes

-- the bytes do not begin with one that passes it
abbrev pub BeginsOther : (ℕ → Bool) → List ℕ → Type 0
BeginsOther test [] = Unit {0}
BeginsOther test (b ∷ bytes) = test b ≡ false

-- as many bytes that pass the test as stand there, where the rest follows them
pub record IsRun (test : ℕ → Bool) (text rest : List ℕ) : Type 0 where
  pub all : AllOf test text
  pub longest : BeginsOther test rest
