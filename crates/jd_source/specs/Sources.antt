-- The file that bytes are, and why they are none.
use Rattle.std.specs.Prelude.{ℕ, ◌≤◌, List, length, Option, Some, None, IfSome}
use Rattle.jd_lex.specs.Parts.{Fault, Token, BadByte, OpenComment, BigLiteral}
use Rattle.jd_lex.specs.Lexing.{Spells, IsFirstFault}
use Rattle.jd_lex.specs.declared.token.LexRefusal.TheVariants as lexical
use Rattle.jd_syntax.specs.JavaTrees.{JavaUnit}
use Rattle.jd_jparse.specs.Parses.{Reads, IsUnsupported, IsNoFile, IsTooDeep, Shows}
use Rattle.jd_jmlparse.specs.Parses as jml
use Rattle.jd_jmlparse.specs.Filled.{Fills, HasNoSpec, HasDeepSpec, block_tokens}
use Rattle.jd_jparse.specs.declared.refusal.ParseRefusal.TheVariants as grammatical
use Rattle.jd_source.specs.declared.read.SourceRefusal.{SourceRefusal}
use Rattle.jd_source.specs.declared.read.SourceRefusal.TheVariants as refusals

-- the bytes spell tokens, these are a file of Java, and this is its tree with the clauses of its JML
pub record IsSource (bytes : List ℕ) (tree : JavaUnit) : Type 0 where
  pub tokens : List Token
  pub spelled : Spells bytes tokens
  pub java : JavaUnit
  pub read : Reads tokens java
  pub filled : Fills tokens java tree

-- ---- why bytes are no file

-- no file of Java has the tokens, which shows at this offset; or one has, but the first of its JML that is refused is none of its
-- place, which shows there
pub data LackFile (ts : List Token) (at : ℕ) : Type 0 where
  of_java : IsNoFile ts → Shows ts at → LackFile ts at
  of_jml : (java : JavaUnit) → Reads ts java → (none : HasNoSpec ts java) → jml.Shows none.block.place (block_tokens ts none.block) at → LackFile ts at

-- they are a file in which something of Java is too high; or nothing is, and in the first of its JML that is refused something is
pub data NestTooDeep (ts : List Token) : Type 0 where
  deep_java : IsTooDeep ts → NestTooDeep ts
  deep_jml : (java : JavaUnit) → Reads ts java → HasDeepSpec ts java → NestTooDeep ts

-- a fault of the text; a token that is not supported, with its place and bytes; that no file has the tokens, with the
-- place where that shows; that something nests too deep, with its place
pub data Reason : Type 0 where
  Faulty : Fault → Reason
  Unsupported : ℕ → List ℕ → Reason
  NoFile : ℕ → Reason
  TooDeep : ℕ → Reason

-- the bytes spell tokens of which this holds
pub record SpellSome (bytes : List ℕ) (P : List Token → Type 0) : Type 0 where
  pub tokens : List Token
  pub spelled : Spells bytes tokens
  pub holds : P tokens

-- each reason is one exactly where this holds, the first fault of the text before all others; of the last the place is any
-- within the bytes
abbrev pub IsReason : List ℕ → Reason → Type 0
IsReason bytes (Faulty fault) = IsFirstFault bytes fault
IsReason bytes (Unsupported at what) = SpellSome bytes (λ ts. IsUnsupported ts at what)
IsReason bytes (NoFile at) = SpellSome bytes (λ ts. LackFile ts at) × (at ≤ length bytes)
IsReason bytes (TooDeep at) = SpellSome bytes NestTooDeep × (at ≤ length bytes)

-- the same reason, of the last two at any place
pub data SameReason : Reason → Reason → Type 0 where
  same : (r : Reason) → SameReason r r
  no_file : (at other : ℕ) → SameReason (NoFile at) (NoFile other)
  too_deep : (at other : ℕ) → SameReason (TooDeep at) (TooDeep other)

-- ---- what is answered

-- the reason of a refusal; want of memory is none
abbrev pub reason_of : SourceRefusal → Option Reason
reason_of (refusals.Lexical (lexical.BadByte file at)) = Some (Faulty (BadByte at))
reason_of (refusals.Lexical (lexical.OpenComment file at)) = Some (Faulty (OpenComment at))
reason_of (refusals.Lexical (lexical.BigLiteral file at)) = Some (Faulty (BigLiteral at))
reason_of (refusals.Lexical lexical.NoMemory) = None
reason_of (refusals.Grammatical (grammatical.Syntax file at)) = Some (NoFile at)
reason_of (refusals.Grammatical (grammatical.Unsupported file at what)) = Some (Unsupported at what.items)
reason_of (refusals.Grammatical (grammatical.TooDeep file at)) = Some (TooDeep at)
reason_of (refusals.Grammatical grammatical.NoMemory) = None

-- each refusal holds exactly where its reason does
abbrev pub IsRefused : List ℕ → SourceRefusal → Type 0
IsRefused bytes e = IfSome (reason_of e) (IsReason bytes)
