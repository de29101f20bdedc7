-- Tokens, and the parts of a text: white space, comments, words, numbers and signs, each the longest that stands there.
use Rattle.std.specs.Prelude.{◌≡◌, ◌≢◌, ℕ, ◌+◌, ◌<◌, ◌≤◌, List, [], ◌∷◌, ◌++◌, length, get_or, Bool, true, false, cond, ◌==◌, ◌&&◌, ◌||◌, Option, Some, None, ℤ, pos}
use Rattle.std.specs.List.{list_any, list_all}
use Rattle.std.specs.Str.Parse.{digits_value}
use Rattle.jd_lex.specs.Signs.{signs, IsLongest, BeginsNone}
use Rattle.jd_lex.specs.Bytes.{is_white, ends_line, is_digit, is_letter, begins_word, is_word_byte, is_at, in_line, IsRun}
use Rattle.jd_lex.specs.declared.starts.Start.{Start}
use Rattle.jd_lex.specs.declared.starts.Start.TheVariants.{White, WordStart, NumberStart, LineComment, BlockComment, SignStart}

pub data Kind : Type 0 where
  Word : (text : List ℕ) → Kind
  Number : (value : ℤ) → Kind
  Sign : (text : List ℕ) → Kind

-- a token, the offset of its first byte, the offset behind its last, and whether it stands in JML
pub record Token : Type 0 where
  pub kind : Kind
  pub begins : ℕ
  pub ends : ℕ
  pub jml : Bool

-- a part of a text: its bytes, and the tokens that it gives
pub record Part : Type 0 where
  pub text : List ℕ
  pub tokens : List Token

-- why a text has no tokens, and where
pub data Fault : Type 0 where
  BadByte : (at : ℕ) → Fault
  OpenComment : (at : ℕ) → Fault
  BigLiteral : (at : ℕ) → Fault

abbrev pub place : Fault → ℕ
place (BadByte at) = at
place (OpenComment at) = at
place (BigLiteral at) = at

-- What two bytes begin; 0 stands for one behind the text's end. In JML a word may begin with a backslash and a letter
-- (JML Reference Manual 4.6).
abbrev pub start_by : Bool → ℕ → ℕ → Start
start_by jml b c =
    cond (is_white b) White
    (cond (begins_word b || (jml && ((b == 92) && is_letter c))) WordStart
    (cond (is_digit b) NumberStart
    (cond ((b == 47) && (c == 47)) LineComment
    (cond ((b == 47) && (c == 42)) BlockComment
    SignStart))))

abbrev pub start_of : Bool → List ℕ → Start
start_of jml bytes = start_by jml (get_or bytes 0 0) (get_or bytes 1 0)

-- ---- white space, words and numbers

abbrev pub Ignored : Bool → List ℕ → List ℕ → Type 0
Ignored true ats rest = IsRun is_at ats rest
Ignored false ats rest = ats ≡ []

-- White space (JLS 3.6). In JML, `@` signs that follow it count to it where a line ends in it
-- (JML Reference Manual 4.4).
pub record IsWhite (jml : Bool) (text rest : List ℕ) : Type 0 where
  pub white : List ℕ
  pub ats : List ℕ
  pub joined : text ≡ white ++ ats
  pub run : IsRun is_white white (ats ++ rest)
  pub ignored : Ignored (jml && list_any ends_line white) ats rest

-- a word: a first byte, and as many letters, digits, `_` and `$` as stand there (JLS 3.8, 3.9)
pub record IsWord (text rest : List ℕ) : Type 0 where
  pub first : ℕ
  pub more : List ℕ
  pub joined : text ≡ first ∷ more
  pub run : IsRun is_word_byte more rest

abbrev pub MoreDigits : Bool → List ℕ → List ℕ → Type 0
MoreDigits true more rest = more ≡ []
MoreDigits false more rest = IsRun is_digit more rest

-- a decimal numeral (JLS 3.10.1): `0`, or another digit and as many digits as stand there
pub record IsNumeral (text rest : List ℕ) : Type 0 where
  pub first : ℕ
  pub more : List ℕ
  pub joined : text ≡ first ∷ more
  pub run : MoreDigits (first == 48) more rest

-- the greatest number: in Java that of an `int` behind a minus sign (JLS 3.10.1), in JML what the tokens can hold
abbrev pub limit : Bool → ℕ
limit jml = cond jml 170141183460469231731687303715884105727 2147483648

-- ---- comments (JLS 3.7)

-- a comment to the line's end, and its text behind `//`
pub record IsLineComment (body text rest : List ℕ) : Type 0 where
  pub joined : text ≡ 47 ∷ 47 ∷ body
  pub run : IsRun in_line body rest

-- no `*/` stands in the bytes
abbrev pub NoClose : List ℕ → Type 0
NoClose bytes = (front behind : List ℕ) → bytes ≢ front ++ 42 ∷ 47 ∷ behind

-- a comment up to the first `*/` behind its opening, and its text between
pub record IsBlockComment (body text : List ℕ) : Type 0 where
  pub joined : text ≡ 47 ∷ 42 ∷ (body ++ 42 ∷ 47 ∷ [])
  pub first : NoClose (body ++ 42 ∷ [])

-- a comment opens that is not closed
pub record IsOpen (bytes : List ℕ) : Type 0 where
  pub behind : List ℕ
  pub opening : bytes ≡ 47 ∷ 42 ∷ behind
  pub never : NoClose behind

-- the bytes without the `@` signs at their end
abbrev pub without_last_ats : List ℕ → List ℕ
without_last_ats [] = []
without_last_ats (b ∷ bytes) = cond (list_all is_at (b ∷ bytes)) [] (b ∷ without_last_ats bytes)

-- The JML text of a comment, where it is JML (JML Reference Manual 4.4): what follows the `@` behind the opening,
-- without the `@` signs before a `*/`. The flag says whether the comment ends with `*/`.
abbrev pub jml_text : Bool → List ℕ → Option (List ℕ)
jml_text block [] = None
jml_text block (b ∷ text) = cond (is_at b) (Some (cond block (without_last_ats text) text)) None

-- ---- parts that are no comments

abbrev pub one : Bool → ℕ → List ℕ → Kind → List Token
one jml at text kind = record { kind = kind; begins = at; ends = at + length text; jml = jml } ∷ []

abbrev pub IsPlain : Start → Bool → ℕ → Part → List ℕ → Type 0
IsPlain White jml at p rest = IsWhite jml p.text rest × (p.tokens ≡ [])
IsPlain WordStart jml at p rest = IsWord p.text rest × (p.tokens ≡ one jml at p.text (Word p.text))
IsPlain NumberStart jml at p rest =
    IsNumeral p.text rest × (digits_value 10 p.text ≤ limit jml) × (p.tokens ≡ one jml at p.text (Number (pos (digits_value 10 p.text))))
IsPlain LineComment jml at p rest = ⊥
IsPlain BlockComment jml at p rest = ⊥
IsPlain SignStart jml at p rest = IsLongest (signs jml) p.text rest × (p.tokens ≡ one jml at p.text (Sign p.text))

-- a number that is too great stands at the head of the bytes
pub record IsBig (jml : Bool) (bytes : List ℕ) : Type 0 where
  pub text : List ℕ
  pub rest : List ℕ
  pub joined : bytes ≡ text ++ rest
  pub numeral : IsNumeral text rest
  pub great : limit jml < digits_value 10 text

abbrev pub IsPlainFault : Start → Bool → ℕ → List ℕ → Fault → Type 0
IsPlainFault White jml at bytes fault = ⊥
IsPlainFault WordStart jml at bytes fault = ⊥
IsPlainFault NumberStart jml at bytes fault = IsBig jml bytes × (fault ≡ BigLiteral at)
IsPlainFault LineComment jml at bytes fault = ⊥
IsPlainFault BlockComment jml at bytes fault = ⊥
IsPlainFault SignStart jml at bytes fault = BeginsNone (signs jml) bytes × (fault ≡ BadByte at)
