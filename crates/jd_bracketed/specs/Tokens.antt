-- The tokens of a text, each with the offset of its first byte.
use Rattle.std.specs.Prelude.{ℕ, zero, suc, List, [], ◌∷◌, ◌++◌, map, take, Bool, false, true, cond, ◌==◌, codes}
use Rattle.std.specs.List.{starts_with}
use Rattle.jd_bracketed.specs.Bytes.{class_in, is_word_byte}
use Rattle.jd_bracketed.specs.declared.class.Class.{Class}
use Rattle.jd_bracketed.specs.declared.class.Class.TheVariants.{Blank, InComment, Alone, Part}

pub data TokenKind : Type 0 where
  Open : TokenKind
  Close : TokenKind
  OpenSquare : TokenKind
  CloseSquare : TokenKind
  Word : List ℕ → TokenKind
  Bad : TokenKind

-- a token, and the offset of its first byte
abbrev pub Placed : Type 0
Placed = TokenKind × ℕ

abbrev pub kinds : List Placed → List TokenKind
kinds ps = map (λ p. p.0) ps

-- which token a byte is that is one by itself
abbrev pub kind_alone : ℕ → TokenKind
kind_alone b = cond (b == 40) Open (cond (b == 41) Close (cond (b == 91) OpenSquare (cond (b == 93) CloseSquare Bad)))

-- ---- words

-- how many bytes of words stand at the head
abbrev pub run_length : List ℕ → ℕ
run_length [] = 0
run_length (b ∷ bytes) = cond (is_word_byte b) (suc (run_length bytes)) 0

-- the type of arrays is one word, though it has brackets
abbrev pub array_type : List ℕ
array_type = codes "int[]"

-- how many bytes follow the first byte of the word at the head
abbrev pub word_more : List ℕ → ℕ
word_more [] = 0
word_more (b ∷ bytes) = cond (starts_with ◌==◌ (b ∷ bytes) array_type) 4 (run_length bytes)

-- ---- the tokens of a text

-- the token that a byte begins, how many more bytes it has, and whether a comment is open behind it
abbrev pub Turn : Type 0
Turn = List Placed × ℕ × Bool

abbrev pub turn : Bool → ℕ → ℕ → List ℕ → Class → Turn
turn in_comment at b bytes Blank = ([], 0, false)
turn in_comment at b bytes InComment = ([], 0, true)
turn in_comment at b bytes Alone = ((kind_alone b, at) ∷ [], 0, in_comment)
turn in_comment at b bytes Part = let n = word_more (b ∷ bytes) in ((Word (b ∷ take n bytes), at) ∷ [], n, in_comment)

-- the tokens of bytes, of which so many belong to the token before, the first of them at that offset
unfoldable pub tokens_behind : ℕ → Bool → ℕ → List ℕ → List Placed
tokens_behind more in_comment at [] = []
tokens_behind (suc more) in_comment at (b ∷ bytes) = tokens_behind more in_comment (suc at) bytes
tokens_behind zero in_comment at (b ∷ bytes) =
    let t = turn in_comment at b bytes (class_in in_comment b) in t.0 ++ tokens_behind t.1 t.2 (suc at) bytes

-- the tokens of what is left of a text: whether it begins inside a comment, its offset, its bytes
abbrev pub tokens_from : Bool → ℕ → List ℕ → List Placed
tokens_from in_comment at bytes = tokens_behind 0 in_comment at bytes

abbrev pub tokens_of : List ℕ → List Placed
tokens_of bytes = tokens_from false 0 bytes
