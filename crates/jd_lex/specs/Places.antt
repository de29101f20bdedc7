-- Where the tokens of a text stand in it.
use Rattle.std.specs.Prelude.{◌≡◌, ℕ, ◌<◌, ◌≤◌, List, [], ◌∷◌, length, slice_range}
use Rattle.std.specs.Fmt.{signed_decimal}
use Rattle.jd_lex.specs.Parts.{Kind, Word, Number, Sign, Token}

-- the bytes are those of a token; the decimal of its value where it is a number
abbrev pub Says : Kind → List ℕ → Type 0
Says (Word text) bytes = bytes ≡ text
Says (Number value) bytes = bytes ≡ signed_decimal value
Says (Sign text) bytes = bytes ≡ text

-- the bytes of the text between the token's offsets are the token's
pub record IsSlice (bytes : List ℕ) (t : Token) : Type 0 where
  pub within : t.ends ≤ length bytes
  pub says : Says t.kind (slice_range bytes t.begins t.ends)

abbrev pub AreSlices : List ℕ → List Token → Type 0
AreSlices bytes [] = Unit {0}
AreSlices bytes (t ∷ ts) = IsSlice bytes t × AreSlices bytes ts

-- each token has a byte, and begins where the one before it ends, or behind
abbrev pub InOrder : ℕ → List Token → Type 0
InOrder from [] = Unit {0}
InOrder from (t ∷ ts) = (from ≤ t.begins) × (t.begins < t.ends) × InOrder t.ends ts
