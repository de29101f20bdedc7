-- How the tokens of a text form are written: one space between two of them, none behind an opening bracket and none before a
-- closing one.
use Rattle.std.specs.Prelude.{◌≡◌, ◌≢◌, ◌⊎◌, ℕ, zero, suc, ◌+◌, ℤ, pos, negsuc, List, [], ◌∷◌, ◌++◌, map, Bool, true, false, cond, ◌||◌, codes}
use Rattle.std.specs.List.{All}
use Rattle.std.specs.Int.Digits.{digits_of}
use Rattle.jd_bracketed.specs.Tokens.{TokenKind, Open, Close, OpenSquare, CloseSquare, Word, Bad, array_type}
use Rattle.jd_bracketed.specs.Texts.{AllOfWords}

-- ---- the text of tokens

-- a byte that no text form has is not written
abbrev pub token_text : TokenKind → List ℕ
token_text Open = codes "("
token_text Close = codes ")"
token_text OpenSquare = codes "["
token_text CloseSquare = codes "]"
token_text (Word w) = w
token_text Bad = []

-- an opening bracket
abbrev pub opens : TokenKind → Bool
opens Open = true
opens Close = false
opens OpenSquare = true
opens CloseSquare = false
opens (Word w) = false
opens Bad = false

-- a closing bracket
abbrev pub closes : TokenKind → Bool
closes Open = false
closes Close = true
closes OpenSquare = false
closes CloseSquare = true
closes (Word w) = false
closes Bad = false

-- what stands before the token: nothing at the text's start and behind an opening bracket, which is tight, nor before a closing
-- bracket; else one space
abbrev pub gap : Bool → TokenKind → List ℕ
gap tight t = cond (tight || closes t) [] (codes " ")

abbrev pub text_from : Bool → List TokenKind → List ℕ
text_from tight [] = []
text_from tight (t ∷ ts) = gap tight t ++ (token_text t ++ text_from (opens t) ts)

abbrev pub text_of : List TokenKind → List ℕ
text_of ts = text_from true ts

-- ---- which tokens can be written

-- bytes that are one word, where neither a byte of a word nor `[]` follows them
pub record IsPlainWord (w : List ℕ) : Type 0 where
  pub some : w ≢ []
  pub parts : AllOfWords w

abbrev pub IsWritable : TokenKind → Type 0
IsWritable Open = Unit {0}
IsWritable Close = Unit {0}
IsWritable OpenSquare = Unit {0}
IsWritable CloseSquare = Unit {0}
IsWritable (Word w) = (w ≡ array_type) ⊎ IsPlainWord w
IsWritable Bad = ⊥

abbrev pub AllWritable : List TokenKind → Type 0
AllWritable ts = All IsWritable ts

-- ---- writing token by token

-- what is written so far, and whether the next token follows without a space
abbrev pub Text : Type 0
Text = List ℕ × Bool

abbrev pub empty_text : Text
empty_text = ([], true)

abbrev pub write : Text → TokenKind → Text
write text t = (text.0 ++ (gap text.1 t ++ token_text t), opens t)

abbrev pub write_all : Text → List TokenKind → Text
write_all text [] = text
write_all text (t ∷ ts) = write_all (write text t) ts

-- whether a token follows these without a space
abbrev pub tight_behind : Bool → List TokenKind → Bool
tight_behind tight [] = tight
tight_behind tight (t ∷ ts) = tight_behind (opens t) ts

-- ---- integers

-- the decimal digits of a number, without leading zeros; `0` for zero
unfoldable pub number_text : ℕ → List ℕ
number_text zero = codes "0"
number_text (suc n) = map (λ d. 48 + d) (digits_of 10 (suc n))

-- those of its absolute value, behind `-` where it is negative
abbrev pub integer_text : ℤ → List ℕ
integer_text (pos n) = number_text n
integer_text (negsuc n) = codes "-" ++ number_text (suc n)
