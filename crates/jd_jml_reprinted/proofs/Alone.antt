-- Texts of one token: words and signs by a test, and words and numerals that stand alone.
use Rattle.std.proofs.Common.{◌≡◌, ◌≢◌, inl, inr, ℕ, Bool, true, false, not, ◌&&◌, ◌==◌, get_or, List, [], ◌∷◌, refl, sym, ap, subst, ◌∙◌}
use Rattle.std.specs.List.{list_all, list_any}
use Rattle.std.specs.Str.{bytes_eq}
use Rattle.std.proofs.lemmas.Bool.{false≢true, and_parts, or_cases, not-true, eqb-true}
use Rattle.std.proofs.lemmas.Slice.Eq.{bytes_eq-Decides}
use Rattle.jd_lex.specs.Bytes.{is_word_byte, is_at, AllOf, BeginsOther}
use Rattle.jd_lex.specs.Signs.{signs, Listed}
use Rattle.jd_lex.specs.Parts.{Kind, Word, Sign, start_of}
use Rattle.jd_lex.specs.declared.starts.Start.{Start}
use Rattle.jd_lex.specs.declared.starts.Start.TheVariants.{White, WordStart, NumberStart, LineComment, BlockComment, SignStart}
use Rattle.jd_jml_spelled.specs.Clauses.{kind_by, kind_of}
use Rattle.jd_jml_spelled.specs.Comments.{IsAlone, IsTokenText}

-- ---- by a test

abbrev is_word : List ℕ → Bool
is_word [] = false
is_word (b ∷ more) = list_all is_word_byte more

abbrev is_alone : Start → List ℕ → Bool
is_alone WordStart text = is_word text
is_alone SignStart text = list_any (bytes_eq text) (signs true)
is_alone _ text = false

abbrev pub is_token_text : List ℕ → Bool
is_token_text text =
    is_alone (start_of true text) text && (not (get_or text 0 0 == 64) && not ((get_or text 0 0 == 92) && (get_or text 1 0 == 117)))

all_word_bytes : (bytes : List ℕ) → list_all is_word_byte bytes ≡ true → AllOf is_word_byte bytes
all_word_bytes [] e = tt
all_word_bytes (b ∷ bytes) e = let (a, c) = and_parts (is_word_byte b) (list_all is_word_byte bytes) e in (a, all_word_bytes bytes c)

listed : (text : List ℕ) (table : List (List ℕ)) → list_any (bytes_eq text) table ≡ true → Listed text table
listed text [] e = absurd (false≢true e)
listed text (s ∷ table) e = elim (or_cases (bytes_eq text s) (list_any (bytes_eq text) table) e) [
  | inl k ↦ inl ((bytes_eq-Decides text s).0 k)
  | inr k ↦ inr (listed text table k)
]

alone_by : (s : Start) (text : List ℕ) → is_alone s text ≡ true → IsAlone s (kind_by s text) text
alone_by White text e = absurd (false≢true e)
alone_by WordStart [] e = absurd (false≢true e)
alone_by WordStart (b ∷ more) e = (record { first = b; more = more; joined = refl; run = record { all = all_word_bytes more e; longest = tt } }, refl)
alone_by NumberStart text e = absurd (false≢true e)
alone_by LineComment text e = absurd (false≢true e)
alone_by BlockComment text e = absurd (false≢true e)
alone_by SignStart text e = (listed text (signs true) e, refl)

no_at_by : (text : List ℕ) → not (get_or text 0 0 == 64) ≡ true → BeginsOther is_at text
no_at_by [] e = tt
no_at_by (b ∷ text) e = not-true (b == 64) e

pub tested_text : (text : List ℕ) → is_token_text text ≡ true → IsTokenText (kind_of text) text
tested_text text e =
    let (a, b) = and_parts (is_alone (start_of true text) text) (not (get_or text 0 0 == 64) && not ((get_or text 0 0 == 92) && (get_or text 1 0 == 117))) e in
    let (c, d) = and_parts (not (get_or text 0 0 == 64)) (not ((get_or text 0 0 == 92) && (get_or text 1 0 == 117))) b in
    record {
      alone = alone_by (start_of true text) text a;
      no_at = no_at_by text c;
      no_escape = λ behind is. false≢true (ap (λ t. not ((get_or t 0 0 == 92) && (get_or t 1 0 == 117))) (sym is) ∙ d);
    }

-- ---- words and numerals

pub kind_alone : (s : Start) (kind : Kind) (text : List ℕ) → IsAlone s kind text → kind_by s text ≡ kind
kind_alone White kind text h = absurd h
kind_alone WordStart kind text h = sym h.1
kind_alone NumberStart kind text h = sym h.2
kind_alone LineComment kind text h = absurd h
kind_alone BlockComment kind text h = absurd h
kind_alone SignStart kind text h = sym h.1

no_at_alone : (kind : Kind) (text : List ℕ) → (kind ≡ Sign text → ⊥) → IsAlone (start_of true text) kind text → BeginsOther is_at text
no_at_alone kind [] other h = tt
no_at_alone kind (b ∷ text) other h = by (is_at b) refl
  where
    by : (x : Bool) → is_at b ≡ x → is_at b ≡ false
    by false e = e
    by true e =
        let same = eqb-true b 64 e in
        let moved : IsAlone (start_of true (64 ∷ text)) kind (b ∷ text) = subst (λ c. IsAlone (start_of true (c ∷ text)) kind (b ∷ text)) same h in
        absurd (other moved.1)

alone_text : (kind : Kind) (text : List ℕ) → (kind ≡ Sign text → ⊥) → ((behind : List ℕ) → text ≢ 92 ∷ 117 ∷ behind)
    → IsAlone (start_of true text) kind text → IsTokenText (kind_of text) text
alone_text kind text other no_escape h =
    subst (λ k. IsTokenText k text) (sym (kind_alone (start_of true text) kind text h))
    (record { alone = h; no_at = no_at_alone kind text other h; no_escape = no_escape })

no_sign_word : (w text : List ℕ) → Word w ≡ Sign text → ⊥
no_sign_word w text e = cc

pub word_text : (text : List ℕ) → (get_or text 0 0 == 92) ≡ false → IsAlone (start_of true text) (Word text) text → IsTokenText (kind_of text) text
word_text text first h =
    alone_text (Word text) text (no_sign_word text text) (λ behind is. false≢true (sym first ∙ ap (λ t. get_or t 0 0 == 92) is)) h

-- a number's text is no word
pub number_text : (kind : Kind) (text : List ℕ) → (kind ≡ Sign text → ⊥) → (kind ≡ Word text → ⊥) → IsAlone (start_of true text) kind text
    → IsTokenText (kind_of text) text
number_text kind text other no_word h = alone_text kind text other escape h
  where
    escape : (behind : List ℕ) → text ≢ 92 ∷ 117 ∷ behind
    escape behind is =
        let moved : IsAlone (start_of true (92 ∷ 117 ∷ behind)) kind text = subst (λ t. IsAlone (start_of true t) kind text) is h in
        no_word moved.1
