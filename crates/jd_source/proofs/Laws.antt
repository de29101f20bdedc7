-- Bytes are one file at most, or are refused for one reason.
use Rattle.std.proofs.Common.{◌≡◌, ℕ, List, subst}
use Rattle.jd_lex.specs.Parts.{Fault, Token}
use Rattle.jd_lex.specs.Lexing.{Spells, HasFault, IsFirstFault}
use Rattle.jd_syntax.specs.JavaTrees.{JavaUnit}
use Rattle.jd_jparse.specs.Parses.{Reads, IsUnsupported}
use Rattle.jd_jparse.specs.OneAnswer.{OneAnswer}
use Rattle.jd_jmlparse.specs.OneFilling.{OneFilling}
use Rattle.jd_source.specs.Laws.{OneSource}
use Rattle.jd_jmlparse.specs.Filled.{Fills, HasNoSpec, HasDeepSpec}
use Rattle.jd_source.specs.Sources.{IsSource, LackFile, of_java, of_jml, NestTooDeep, deep_java, deep_jml, Reason, Faulty, Unsupported, NoFile, TooDeep, SpellSome, IsReason, SameReason, same, no_file, too_deep}

-- the tokens are a file of Java, and this is its tree with the clauses of its JML
record IsFilled (ts : List Token) (tree : JavaUnit) : Type 0 where
  java : JavaUnit
  read : Reads ts java
  filled : Fills ts java tree

abbrev OneList : Type 0
OneList = (bytes : List ℕ) (xs ys : List Token) → Spells bytes xs → Spells bytes ys → xs ≡ ys

abbrev NoFault : Type 0
NoFault = (bytes : List ℕ) (xs : List Token) (fault : Fault) → Spells bytes xs → HasFault bytes fault → ⊥

abbrev OneFirst : Type 0
OneFirst = (bytes : List ℕ) (fault other : Fault) → IsFirstFault bytes fault → IsFirstFault bytes other → fault ≡ other

-- what holds of one list of tokens that the bytes spell holds of the other
moved : OneList → (P : List Token → Type 0) (bytes : List ℕ) (xs : List Token) → Spells bytes xs → SpellSome bytes P → P xs
moved law P bytes xs spelled s = subst P (law bytes s.tokens xs s.spelled spelled) s.holds

-- tokens that are spelled are not at fault
spelled_faultless : NoFault → (P : List Token → Type 0) (bytes : List ℕ) (fault : Fault) → SpellSome bytes P → IsFirstFault bytes fault → ⊥
spelled_faultless law P bytes fault s first = law bytes s.tokens fault s.spelled first.there

-- what both read of one file of Java
as_java : OneAnswer → (ts : List Token) (t u : JavaUnit) (P : JavaUnit → Type 0) → Reads ts t → Reads ts u → P u → P t
as_java answer ts t u P one other p = subst P (answer.one_tree ts u t other one) p

as_filled : (bytes : List ℕ) (t : JavaUnit) (s : IsSource bytes t) → IsFilled s.tokens t
as_filled bytes t s = record { java = s.java; read = s.read; filled = s.filled }

as_source : (bytes : List ℕ) (t : JavaUnit) → IsSource bytes t → SpellSome bytes (λ ts. IsFilled ts t)
as_source bytes t s = record { tokens = s.tokens; spelled = s.spelled; holds = as_filled bytes t s }

one_filled : OneAnswer → OneFilling → (ts : List Token) (t u : JavaUnit) → IsFilled ts t → IsFilled ts u → t ≡ u
one_filled answer filling ts t u f g =
    filling.one_unit ts f.java t u f.filled (as_java answer ts f.java g.java (λ j. Fills ts j u) f.read g.read g.filled)

-- ---- what is read is not refused

not_lacking : OneAnswer → OneFilling → (ts : List Token) (t : JavaUnit) (at : ℕ) → IsFilled ts t → LackFile ts at → ⊥
not_lacking answer filling ts t at f (of_java n shows) = answer.a_file ts f.java f.read n
not_lacking answer filling ts t at f (of_jml java read n shows) =
    filling.no_spec ts f.java t f.filled (as_java answer ts f.java java (HasNoSpec ts) f.read read n)

not_nesting : OneAnswer → OneFilling → (ts : List Token) (t : JavaUnit) → IsFilled ts t → NestTooDeep ts → ⊥
not_nesting answer filling ts t f (deep_java d) = answer.not_too_deep ts f.java f.read d
not_nesting answer filling ts t f (deep_jml java read d) =
    filling.not_deep ts f.java t f.filled (as_java answer ts f.java java (HasDeepSpec ts) f.read read d)

not_refused : OneList → NoFault → OneAnswer → OneFilling → (bytes : List ℕ) (t : JavaUnit) (r : Reason) → IsSource bytes t → IsReason bytes r → ⊥
not_refused list fault answer filling bytes t (Faulty f) s first = fault bytes s.tokens f s.spelled first.there
not_refused list fault answer filling bytes t (Unsupported at what) s u = answer.supported s.tokens s.java at what s.read (moved list (λ ts. IsUnsupported ts at what) bytes s.tokens s.spelled u)
not_refused list fault answer filling bytes t (NoFile at) s n = not_lacking answer filling s.tokens t at (as_filled bytes t s) (moved list (λ ts. LackFile ts at) bytes s.tokens s.spelled n.0)
not_refused list fault answer filling bytes t (TooDeep at) s d = not_nesting answer filling s.tokens t (as_filled bytes t s) (moved list NestTooDeep bytes s.tokens s.spelled d.0)

-- ---- one reason

one_unsupported : OneList → OneAnswer → (bytes : List ℕ) (at other : ℕ) (what another : List ℕ) → SpellSome bytes (λ ts. IsUnsupported ts at what) → SpellSome bytes (λ ts. IsUnsupported ts other another) → SameReason (Unsupported at what) (Unsupported other another)
one_unsupported list answer bytes at other what another u v =
    let is = answer.one_token u.tokens at other what another u.holds (moved list (λ ts. IsUnsupported ts other another) bytes u.tokens u.spelled v) in
    subst (λ (n : ℕ). SameReason (Unsupported at what) (Unsupported n another)) is.0 (subst (λ (w : List ℕ). SameReason (Unsupported at what) (Unsupported at w)) is.1 (same (Unsupported at what)))

unsupported_or_lacking : OneAnswer → (ts : List Token) (at : ℕ) (what : List ℕ) (other : ℕ) → IsUnsupported ts at what → LackFile ts other → ⊥
unsupported_or_lacking answer ts at what other u (of_java n shows) = answer.unsupported_first ts at what u n
unsupported_or_lacking answer ts at what other u (of_jml java read n shows) = answer.supported ts java at what read u

unsupported_or_nesting : OneAnswer → (ts : List Token) (at : ℕ) (what : List ℕ) → IsUnsupported ts at what → NestTooDeep ts → ⊥
unsupported_or_nesting answer ts at what u (deep_java d) = answer.unsupported_before_depth ts at what u d
unsupported_or_nesting answer ts at what u (deep_jml java read d) = answer.supported ts java at what read u

lacking_or_nesting : OneAnswer → OneFilling → (ts : List Token) (at : ℕ) → LackFile ts at → NestTooDeep ts → ⊥
lacking_or_nesting answer filling ts at (of_java n shows) (deep_java d) = answer.no_file_is_not_deep ts n d
lacking_or_nesting answer filling ts at (of_java n shows) (deep_jml java read d) = answer.a_file ts java read n
lacking_or_nesting answer filling ts at (of_jml java read n shows) (deep_java d) = answer.not_too_deep ts java read d
lacking_or_nesting answer filling ts at (of_jml java read n shows) (deep_jml other also d) =
    filling.one_cause ts java n (as_java answer ts java other (HasDeepSpec ts) read also d)

unsupported_alone : OneList → OneAnswer → (bytes : List ℕ) (at : ℕ) (what : List ℕ) (other : ℕ) → SpellSome bytes (λ ts. IsUnsupported ts at what) → SpellSome bytes (λ ts. LackFile ts other) → ⊥
unsupported_alone list answer bytes at what other u n = unsupported_or_lacking answer u.tokens at what other u.holds (moved list (λ ts. LackFile ts other) bytes u.tokens u.spelled n)

unsupported_not_deep : OneList → OneAnswer → (bytes : List ℕ) (at : ℕ) (what : List ℕ) → SpellSome bytes (λ ts. IsUnsupported ts at what) → SpellSome bytes NestTooDeep → ⊥
unsupported_not_deep list answer bytes at what u d = unsupported_or_nesting answer u.tokens at what u.holds (moved list NestTooDeep bytes u.tokens u.spelled d)

no_file_not_deep : OneList → OneAnswer → OneFilling → (bytes : List ℕ) (at : ℕ) → SpellSome bytes (λ ts. LackFile ts at) → SpellSome bytes NestTooDeep → ⊥
no_file_not_deep list answer filling bytes at n d = lacking_or_nesting answer filling n.tokens at n.holds (moved list NestTooDeep bytes n.tokens n.spelled d)

one_reason : OneList → NoFault → OneFirst → OneAnswer → OneFilling → (bytes : List ℕ) (r s : Reason) → IsReason bytes r → IsReason bytes s → SameReason r s
one_reason list fault first answer filling bytes (Faulty f) (Faulty g) p q = subst (λ (h : Fault). SameReason (Faulty f) (Faulty h)) (first bytes f g p q) (same (Faulty f))
one_reason list fault first answer filling bytes (Faulty f) (Unsupported at what) p q = absurd (spelled_faultless fault (λ ts. IsUnsupported ts at what) bytes f q p)
one_reason list fault first answer filling bytes (Faulty f) (NoFile at) p q = absurd (spelled_faultless fault (λ ts. LackFile ts at) bytes f q.0 p)
one_reason list fault first answer filling bytes (Faulty f) (TooDeep at) p q = absurd (spelled_faultless fault NestTooDeep bytes f q.0 p)
one_reason list fault first answer filling bytes (Unsupported at what) (Faulty g) p q = absurd (spelled_faultless fault (λ ts. IsUnsupported ts at what) bytes g p q)
one_reason list fault first answer filling bytes (Unsupported at what) (Unsupported other another) p q = one_unsupported list answer bytes at other what another p q
one_reason list fault first answer filling bytes (Unsupported at what) (NoFile other) p q = absurd (unsupported_alone list answer bytes at what other p q.0)
one_reason list fault first answer filling bytes (Unsupported at what) (TooDeep other) p q = absurd (unsupported_not_deep list answer bytes at what p q.0)
one_reason list fault first answer filling bytes (NoFile at) (Faulty g) p q = absurd (spelled_faultless fault (λ ts. LackFile ts at) bytes g p.0 q)
one_reason list fault first answer filling bytes (NoFile at) (Unsupported other what) p q = absurd (unsupported_alone list answer bytes other what at q p.0)
one_reason list fault first answer filling bytes (NoFile at) (NoFile other) p q = no_file at other
one_reason list fault first answer filling bytes (NoFile at) (TooDeep other) p q = absurd (no_file_not_deep list answer filling bytes at p.0 q.0)
one_reason list fault first answer filling bytes (TooDeep at) (Faulty g) p q = absurd (spelled_faultless fault NestTooDeep bytes g p.0 q)
one_reason list fault first answer filling bytes (TooDeep at) (Unsupported other what) p q = absurd (unsupported_not_deep list answer bytes other what q p.0)
one_reason list fault first answer filling bytes (TooDeep at) (NoFile other) p q = absurd (no_file_not_deep list answer filling bytes other q.0 p.0)
one_reason list fault first answer filling bytes (TooDeep at) (TooDeep other) p q = too_deep at other

pub one_source : OneList → NoFault → OneFirst → OneAnswer → OneFilling → OneSource
one_source list fault first answer filling = record {
  one_tree = λ bytes t u s r. one_filled answer filling r.tokens t u (moved list (λ ts. IsFilled ts t) bytes r.tokens r.spelled (as_source bytes t s)) (as_filled bytes u r);
  not_refused = not_refused list fault answer filling;
  one_reason = one_reason list fault first answer filling;
}
