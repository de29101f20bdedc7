-- Each token that is read can be written, but for a byte that no text form has.
use Rattle.std.proofs.Common.{◌≡◌, ◌⊎◌, ℕ, List, [], ◌∷◌, ◌++◌, Bool, false, refl, inl, inr}
use Rattle.std.specs.List.{All}
use Rattle.std.proofs.lemmas.List.Elements.{All-nil, All-cons, All-head, All-tail}
use Rattle.jd_bracketed.specs.Tokens.{TokenKind, Open, Close, OpenSquare, CloseSquare, Word, Bad, Placed, kinds, tokens_of}
use Rattle.jd_bracketed.specs.Texts.{IsWord, IsText, Spells}
use Rattle.jd_bracketed.proofs.Spelling.{all_spelled}
use Rattle.jd_written.specs.Written.{IsWritable, AllWritable}

abbrev pub IsBadOrWritable : TokenKind → Type 0
IsBadOrWritable t = (t ≡ Bad) ⊎ IsWritable t

word_writable : (w rest : List ℕ) → IsWord w rest → IsWritable (Word w)
word_writable w rest (inl e) = inl e
word_writable w rest (inr r) = inr record { some = r.some; parts = r.parts }

token_writable : (t : TokenKind) (inside : Bool) (text rest : List ℕ) → IsText inside t text rest → IsBadOrWritable t
token_writable Open inside text rest h = inr tt
token_writable Close inside text rest h = inr tt
token_writable OpenSquare inside text rest h = inr tt
token_writable CloseSquare inside text rest h = inr tt
token_writable (Word w) inside text rest h = inr (word_writable w rest h.2)
token_writable Bad inside text rest h = inl refl

spelled_writable : (ps : List Placed) (in_comment : Bool) (at : ℕ) (bytes : List ℕ) → Spells ps in_comment at bytes → All IsBadOrWritable (kinds ps)
spelled_writable [] in_comment at bytes s = All-nil IsBadOrWritable
spelled_writable (p ∷ ps) in_comment at bytes (gap, text, rest, inside, parts, between, here, token, more) =
    All-cons IsBadOrWritable p.0 (kinds ps) (token_writable p.0 inside text rest token) (spelled_writable ps inside _ rest more)

-- whatever the bytes
pub read_writable : (bytes : List ℕ) → All IsBadOrWritable (kinds (tokens_of bytes))
read_writable bytes = spelled_writable (tokens_of bytes) false 0 bytes (all_spelled bytes)

-- ---- brackets and words

abbrev pub IsProper : TokenKind → Type 0
IsProper Open = Unit {0}
IsProper Close = Unit {0}
IsProper OpenSquare = Unit {0}
IsProper CloseSquare = Unit {0}
IsProper (Word w) = Unit {0}
IsProper Bad = ⊥

abbrev pub AllProper : List TokenKind → Type 0
AllProper [] = Unit {0}
AllProper (t ∷ ts) = IsProper t × AllProper ts

pub proper_more : (ts us : List TokenKind) → AllProper ts → AllProper us → AllProper (ts ++ us)
proper_more [] us g h = h
proper_more (t ∷ ts) us g h = (g.0, proper_more ts us g.1 h)

proper_writable : (t : TokenKind) → IsBadOrWritable t → IsProper t → IsWritable t
proper_writable Open h g = tt
proper_writable Close h g = tt
proper_writable OpenSquare h g = tt
proper_writable CloseSquare h g = tt
proper_writable (Word w) (inl e) g = absurd cc
proper_writable (Word w) (inr h) g = h
proper_writable Bad h g = g

all_proper_writable : (ts : List TokenKind) → All IsBadOrWritable ts → AllProper ts → AllWritable ts
all_proper_writable [] h g = All-nil IsWritable
all_proper_writable (t ∷ ts) h g =
    All-cons IsWritable t ts (proper_writable t (All-head IsBadOrWritable t ts h) g.0) (all_proper_writable ts (All-tail IsBadOrWritable t ts h) g.1)

-- tokens that were read can all be written where they are brackets and words
pub read_proper_writable : (bytes : List ℕ) → AllProper (kinds (tokens_of bytes)) → AllWritable (kinds (tokens_of bytes))
read_proper_writable bytes g = all_proper_writable (kinds (tokens_of bytes)) (read_writable bytes) g
