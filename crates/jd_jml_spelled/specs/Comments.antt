-- Comments of JML that are written token by token.
use Rattle.std.specs.Prelude.{◌≡◌, ◌≢◌, ℕ, ◌+◌, ◌≤◌, List, [], ◌∷◌, ◌++◌, length, Bool, true, false, pos}
use Rattle.std.specs.Str.Parse.{digits_value}
use Rattle.jd_lex.specs.Bytes.{is_at, BeginsOther}
use Rattle.jd_lex.specs.Signs.{signs, Listed}
use Rattle.jd_lex.specs.Parts.{Kind, Word, Number, Sign, Token, start_of, IsWord, IsNumeral, limit}
use Rattle.jd_lex.specs.Lexing.{Spells}
use Rattle.jd_lex.specs.declared.starts.Start.{Start}
use Rattle.jd_lex.specs.declared.starts.Start.TheVariants.{White, WordStart, NumberStart, LineComment, BlockComment, SignStart}

-- what the text alone is, by what its first bytes begin
abbrev pub IsAlone : Start → Kind → List ℕ → Type 0
IsAlone White kind text = ⊥
IsAlone WordStart kind text = IsWord text [] × (kind ≡ Word text)
IsAlone NumberStart kind text = IsNumeral text [] × (digits_value 10 text ≤ limit true) × (kind ≡ Number (pos (digits_value 10 text)))
IsAlone LineComment kind text = ⊥
IsAlone BlockComment kind text = ⊥
IsAlone SignStart kind text = Listed text (signs true) × (kind ≡ Sign text)

-- A text that is a token of that kind in JML: a word, with a backslash or none, a decimal numeral or a sign. Excluded are signs that
-- begin with `@`, which count to the white space before them, and words that begin like a Unicode escape.
pub record IsTokenText (kind : Kind) (text : List ℕ) : Type 0 where
  pub alone : IsAlone (start_of true text) kind text
  pub no_at : BeginsOther is_at text
  pub no_escape : (behind : List ℕ) → text ≢ 92 ∷ 117 ∷ behind

-- a token's kind and text, and whether it stands first in its line
pub record Piece : Type 0 where
  pub first : Bool
  pub kind : Kind
  pub text : List ℕ

-- a blank, behind a line feed where a line begins
abbrev pub gap : Bool → List ℕ
gap true = 10 ∷ 32 ∷ []
gap false = 32 ∷ []

-- the pieces, and a last line before the comment's end
abbrev pub inside : List Piece → List ℕ
inside [] = gap true
inside (p ∷ ps) = gap p.first ++ (p.text ++ inside ps)

-- `/*@`, and `@*/`
abbrev pub comment : List Piece → List ℕ
comment ps = 47 ∷ 42 ∷ 64 ∷ (inside ps ++ 64 ∷ 42 ∷ 47 ∷ [])

abbrev pub behind_gap : ℕ → Piece → ℕ
behind_gap from p = from + length (gap p.first)

-- the tokens of pieces that begin at that place
abbrev pub tokens_at : ℕ → List Piece → List Token
tokens_at from [] = []
tokens_at from (p ∷ ps) =
    record { kind = p.kind; begins = behind_gap from p; ends = behind_gap from p + length p.text; jml = true } ∷ tokens_at (behind_gap from p + length p.text) ps

abbrev pub AreTokenTexts : List Piece → Type 0
AreTokenTexts [] = Unit {0}
AreTokenTexts (p ∷ ps) = IsTokenText p.kind p.text × AreTokenTexts ps

-- the comment spells the tokens, each at its place
abbrev pub CommentsAreSpelled : Type 0
CommentsAreSpelled = (ps : List Piece) → AreTokenTexts ps → Spells (comment ps) (tokens_at 3 ps)
