-- The tokens of a text that was written are those that were written.
use Rattle.std.proofs.Common.{◌≡◌, ◌≢◌, ◌≤◌, ℕ, ◌+◌, List, [], ◌∷◌, length, Bool, true, false, refl, sym, ap, ◌∙◌, inl, inr, arith}
use Rattle.std.specs.Prelude.{codes}
use Rattle.std.proofs.lemmas.List.Elements.{All-head, All-tail}
use Rattle.jd_syntax.specs.Sxs.{Bracketed}
use Rattle.jd_bracketed.specs.Bytes.{is_word_byte}
use Rattle.jd_bracketed.specs.Tokens.{TokenKind, Open, Close, OpenSquare, CloseSquare, Word, Bad, Placed, kinds, tokens_from, tokens_of}
use Rattle.jd_bracketed.specs.Texts.{NoneAtHead, BeginsWith, IsGap, IsWord, IsText, Spells}
use Rattle.jd_bracketed.specs.Trees.{spell, depth}
use Rattle.jd_bracketed.specs.Answers.{Tree, AnswersText, most_levels}
use Rattle.jd_bracketed.proofs.Spelling.{read_so}
use Rattle.jd_written.specs.Written.{token_text, opens, gap, text_from, text_of, IsWritable, AllWritable}

-- what follows a word: no byte of a word, and not `[]`
pub record EndsWord (rest : List ℕ) : Type 0 where
  pub longest : NoneAtHead rest
  pub no_array : BeginsWith (codes "[]") rest → ⊥

head_is : (a b : ℕ) (xs ys : List ℕ) → a ∷ xs ≡ b ∷ ys → a ≡ b
head_is a b xs ys e = cc

-- by the first byte, which is none of a word and no `[`
ends : (b : ℕ) (rest : List ℕ) → is_word_byte b ≡ false → b ≢ 91 → EndsWord (b ∷ rest)
ends b rest part other = record { longest = part; no_array = λ (behind, e). other (head_is b 91 rest (93 ∷ behind) e) }

pub behind_word : (ts : List TokenKind) → EndsWord (text_from false ts)
behind_word [] = record { longest = tt; no_array = λ (behind, e). absurd cc }
behind_word (Open ∷ ts) = ends 32 (text_from true (Open ∷ ts)) refl (λ e. omega arith)
behind_word (Close ∷ ts) = ends 41 (text_from false ts) refl (λ e. omega arith)
behind_word (OpenSquare ∷ ts) = ends 32 (text_from true (OpenSquare ∷ ts)) refl (λ e. omega arith)
behind_word (CloseSquare ∷ ts) = ends 93 (text_from false ts) refl (λ e. omega arith)
behind_word (Word w ∷ ts) = ends 32 (text_from true (Word w ∷ ts)) refl (λ e. omega arith)
behind_word (Bad ∷ ts) = ends 32 (text_from true (Bad ∷ ts)) refl (λ e. omega arith)

-- ---- where the tokens stand

abbrev placed : Bool → ℕ → List TokenKind → List Placed
placed tight at [] = []
placed tight at (t ∷ ts) = let begin = at + length (gap tight t) in (t, begin) ∷ placed (opens t) (begin + length (token_text t)) ts

kinds_placed : (tight : Bool) (at : ℕ) (ts : List TokenKind) → kinds (placed tight at ts) ≡ ts
kinds_placed tight at [] = refl
kinds_placed tight at (t ∷ ts) = ap (λ us. t ∷ us) (kinds_placed (opens t) (at + length (gap tight t) + length (token_text t)) ts)

-- ---- the text spells them

gap_is : (tight : Bool) (t : TokenKind) → IsGap false (gap tight t) false
gap_is true t = refl
gap_is false Open = refl
gap_is false Close = refl
gap_is false OpenSquare = refl
gap_is false CloseSquare = refl
gap_is false (Word w) = refl
gap_is false Bad = refl

word_is : (w rest : List ℕ) → IsWritable (Word w) → EndsWord rest → IsWord w rest
word_is w rest (inl e) h = inl e
word_is w rest (inr r) h = inr record { some = r.some; parts = r.parts; longest = h.longest; no_array = λ e. h.no_array }

token_is : (t : TokenKind) (ts : List TokenKind) → IsWritable t → IsText false t (token_text t) (text_from (opens t) ts)
token_is Open ts h = record { byte = 40; is = refl; alone = refl; kind_is = refl }
token_is Close ts h = record { byte = 41; is = refl; alone = refl; kind_is = refl }
token_is OpenSquare ts h = record { byte = 91; is = refl; alone = refl; kind_is = refl }
token_is CloseSquare ts h = record { byte = 93; is = refl; alone = refl; kind_is = refl }
token_is (Word w) ts h = (refl, refl, word_is w (text_from false ts) h (behind_word ts))
token_is Bad ts h = absurd h

spelled : (tight : Bool) (at : ℕ) (ts : List TokenKind) → AllWritable ts → Spells (placed tight at ts) false at (text_from tight ts)
spelled tight at [] h = (false, refl)
spelled tight at (t ∷ ts) h =
    let begin = at + length (gap tight t) in (
      gap tight t,
      token_text t,
      text_from (opens t) ts,
      false,
      refl,
      gap_is tight t,
      refl,
      token_is t ts (All-head IsWritable t ts h),
      spelled (opens t) (begin + length (token_text t)) ts (All-tail IsWritable t ts h),
    )

-- ---- reading

-- the tokens of a text that is written behind other bytes, outside a comment
pub tokens_read : (tight : Bool) (at : ℕ) (ts : List TokenKind) → AllWritable ts → kinds (tokens_from false at (text_from tight ts)) ≡ ts
tokens_read tight at ts h = ap kinds (read_so (placed tight at ts) false at (text_from tight ts) (spelled tight at ts h)) ∙ kinds_placed tight at ts

pub one_text : (ts us : List TokenKind) → AllWritable ts → AllWritable us → text_of ts ≡ text_of us → ts ≡ us
one_text ts us h k e = sym (tokens_read true 0 ts h) ∙ (ap (λ bytes. kinds (tokens_of bytes)) e ∙ tokens_read true 0 us k)

pub expression_read : (x : Bracketed) → AllWritable (spell x) → depth x ≤ most_levels → AnswersText (text_of (spell x)) (Tree x)
expression_read x h le = record { spelled = tokens_read true 0 (spell x) h; within = le }
