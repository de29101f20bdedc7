-- What the code's tokens and answers stand for.
use Rattle.std.specs.Prelude.{◌≡◌, ℕ, ◌<◌, ◌≤◌, List, ◌++◌, map, length, take, drop, cond, nat_le, Option, Result, Ok, Err}
use Rattle.std.specs.Global.{Vec}
use Rattle.jd_lex.specs.Parts as plain
use Rattle.jd_lex.specs.Parts.{Fault}
use Rattle.jd_lex.specs.Lexing.{Parts, Faults, Whole, Stops, CommentGives, CommentFault, IsJavaPart, IsJavaFault, Spells, IsFirstFault}
use Rattle.jd_lex.specs.declared.token.Token.{Token}
use Rattle.jd_lex.specs.declared.token.TokenKind.{TokenKind}
use Rattle.jd_lex.specs.declared.token.TokenKind.TheVariants as kinds
use Rattle.jd_lex.specs.declared.token.LexRefusal.{LexRefusal}
use Rattle.jd_lex.specs.declared.token.LexRefusal.TheVariants as refusals

abbrev pub kind_view : TokenKind → plain.Kind
kind_view (kinds.Word text) = plain.Word text.items
kind_view (kinds.Number value) = plain.Number value
kind_view (kinds.Sign text) = plain.Sign text.items

abbrev pub token_view : Token → plain.Token
token_view t = record { kind = kind_view t.kind; begins = t.from; ends = t.to; jml = t.jml }

abbrev pub tokens_view : List Token → List plain.Token
tokens_view ts = map token_view ts

-- what a refusal says; want of memory says nothing
abbrev pub Refuses : (Fault → Type 0) → LexRefusal → Type 0
Refuses P (refusals.BadByte file at) = (file ≡ 0) × P (plain.BadByte at)
Refuses P (refusals.OpenComment file at) = (file ≡ 0) × P (plain.OpenComment at)
Refuses P (refusals.BigLiteral file at) = (file ≡ 0) × P (plain.BigLiteral at)
Refuses P refusals.NoMemory = Unit {0}

-- a part of n bytes stands at the head of the bytes, and its tokens were added
pub record Took (IsPart : Parts) (at : ℕ) (bytes : List ℕ) (old new : List Token) (n : ℕ) : Type 0 where
  pub some : 0 < n
  pub within : n ≤ length bytes
  pub tokens : List plain.Token
  pub added : tokens_view new ≡ tokens_view old ++ tokens
  pub part : IsPart at (record { text = take n bytes; tokens = tokens }) (drop n bytes)

abbrev pub StepGives : Parts → (Fault → Type 0) → ℕ → List ℕ → List Token → List Token → Result ℕ LexRefusal → Type 0
StepGives IsPart fault at bytes old new (Ok n) = Took IsPart at bytes old new n
StepGives IsPart fault at bytes old new (Err e) = Refuses fault e

-- the tokens of the text were added
pub record Added (IsPart : Parts) (from : ℕ) (bytes : List ℕ) (old new : List Token) : Type 0 where
  pub tokens : List plain.Token
  pub added : tokens_view new ≡ tokens_view old ++ tokens
  pub whole : Whole IsPart from bytes tokens

abbrev pub Adds : {T : Type 0} → Parts → Faults → ℕ → List ℕ → List Token → List Token → Result T LexRefusal → Type 0
Adds IsPart IsFault from bytes old new (Ok x) = Added IsPart from bytes old new
Adds IsPart IsFault from bytes old new (Err e) = Refuses (Stops IsPart IsFault from bytes) e

-- the same of the tokens of a comment
pub record CommentAdded (at : ℕ) (jml : Option (List ℕ)) (old new : List Token) : Type 0 where
  pub tokens : List plain.Token
  pub added : tokens_view new ≡ tokens_view old ++ tokens
  pub given : CommentGives at jml tokens

abbrev pub CommentAdds : {T : Type 0} → ℕ → Option (List ℕ) → List Token → List Token → Result T LexRefusal → Type 0
CommentAdds at jml old new (Ok x) = CommentAdded at jml old new
CommentAdds at jml old new (Err e) = Refuses (CommentFault at jml) e

-- the tokens of a whole text where nothing is said of Unicode escapes
abbrev pub Lexes : List ℕ → Result (Vec Token) LexRefusal → Type 0
Lexes bytes (Ok tokens) = Whole IsJavaPart 0 bytes (tokens_view tokens.items)
Lexes bytes (Err e) = Refuses (Stops IsJavaPart IsJavaFault 0 bytes) e

-- the refusal, or that of an escape that stands before
abbrev pub earlier_of : LexRefusal → ℕ → LexRefusal
earlier_of (refusals.BadByte file n) at = cond (nat_le n at) (refusals.BadByte file n) (refusals.BadByte 0 at)
earlier_of (refusals.OpenComment file n) at = cond (nat_le n at) (refusals.OpenComment file n) (refusals.BadByte 0 at)
earlier_of (refusals.BigLiteral file n) at = cond (nat_le n at) (refusals.BigLiteral file n) (refusals.BadByte 0 at)
earlier_of refusals.NoMemory at = refusals.NoMemory

abbrev pub Answers : List ℕ → Result (Vec Token) LexRefusal → Type 0
Answers bytes (Ok tokens) = Spells bytes (tokens_view tokens.items)
Answers bytes (Err e) = Refuses (IsFirstFault bytes) e
