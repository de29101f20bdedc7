-- Which tokens a text spells: the tokens in order, with white space and comments before, between and behind them.
use Rattle.std.specs.Prelude.{◌≡◌, ◌≢◌, ◌⊎◌, ℕ, ◌+◌, List, [], ◌∷◌, ◌++◌, length, Bool, true, false, codes}
use Rattle.jd_bracketed.specs.Bytes.{class_in, is_word_byte}
use Rattle.jd_bracketed.specs.Tokens.{TokenKind, Word, Placed, kind_alone, array_type}
use Rattle.jd_bracketed.specs.declared.class.Class.{Class}
use Rattle.jd_bracketed.specs.declared.class.Class.TheVariants.{Blank, InComment, Alone, Part}

abbrev pub if_between : Class → Type 0 → Type 0 → Type 0
if_between Blank white comment = white
if_between InComment white comment = comment
if_between Alone white comment = ⊥
if_between Part white comment = ⊥

-- white space and comments: whether a comment is open before them, the bytes, whether one is open behind them
abbrev pub IsGap : Bool → List ℕ → Bool → Type 0
IsGap before [] behind = before ≡ behind
IsGap before (b ∷ bytes) behind = if_between (class_in before b) (IsGap false bytes behind) (IsGap true bytes behind)

abbrev pub AllOfWords : List ℕ → Type 0
AllOfWords [] = Unit {0}
AllOfWords (b ∷ bytes) = (is_word_byte b ≡ true) × AllOfWords bytes

abbrev pub NoneAtHead : List ℕ → Type 0
NoneAtHead [] = Unit {0}
NoneAtHead (b ∷ bytes) = is_word_byte b ≡ false

abbrev pub BeginsWith : List ℕ → List ℕ → Type 0
BeginsWith front bytes = (behind : List ℕ) × (bytes ≡ front ++ behind)

-- as many bytes of words as stand there, where the rest follows them, but not those of an array type
pub record IsRun (text rest : List ℕ) : Type 0 where
  pub some : text ≢ []
  pub parts : AllOfWords text
  pub longest : NoneAtHead rest
  pub no_array : text ≡ codes "int" → BeginsWith (codes "[]") rest → ⊥

abbrev pub IsWord : List ℕ → List ℕ → Type 0
IsWord text rest = (text ≡ array_type) ⊎ IsRun text rest

-- one byte that is a token by itself
pub record IsAlone (in_comment : Bool) (kind : TokenKind) (text : List ℕ) : Type 0 where
  pub byte : ℕ
  pub is : text ≡ byte ∷ []
  pub alone : class_in in_comment byte ≡ Alone
  pub kind_is : kind_alone byte ≡ kind

-- the text is that token, inside a comment or outside, where the rest follows it
abbrev pub IsText : Bool → TokenKind → List ℕ → List ℕ → Type 0
IsText in_comment (Word w) text rest = (in_comment ≡ false) × (text ≡ w) × IsWord w rest
IsText in_comment kind text rest = IsAlone in_comment kind text

-- the bytes, the first of them at that offset and inside a comment or not, have these tokens; a token that stands in a
-- comment does not end it
abbrev pub Spells : List Placed → Bool → ℕ → List ℕ → Type 0
Spells [] in_comment at bytes = (behind : Bool) × IsGap in_comment bytes behind
Spells (p ∷ ps) in_comment at bytes =
    (gap text rest : List ℕ) × (inside : Bool) × (bytes ≡ gap ++ (text ++ rest)) × IsGap in_comment gap inside × (p.1 ≡ at + length gap)
    × IsText inside p.0 text rest × Spells ps inside (p.1 + length text) rest
