-- What tokens give: words without `@` and apostrophe, and numbers of 32 bits.
use Rattle.std.proofs.Common.{◌≡◌, ◌≢◌, ◌≤◌, ◌+◌, ℕ, ℤ, pos, negsuc, Bool, true, false, not, cond, ◌&&◌, ◌==◌, nat_eq, nat_lt, nat_le, List, [], ◌∷◌, codes, refl, sym, ap, ◌∙◌, true≢false, arith}
use Rattle.std.specs.List.{AllByRecursion as Every, list_all}
use Rattle.std.proofs.lemmas.Bool.{and_parts}
use Rattle.std.proofs.lemmas.Bool.Decides.{nat_tests}
use Rattle.jd_lex.specs.Parts.{Kind, Token}
use Rattle.jd_lex.specs.Parts as lexed
use Rattle.jd_lex.specs.Lexing.{Spells}
use Rattle.jd_java_grammar.specs.declared.kinds.TheConstants as kinds
use Rattle.jd_java_tokens.specs.Contents.{PlainLexeme}
use Rattle.jd_java_tokens.specs.Heads.{number_in, number_of, text_of, word_in}
use Rattle.jd_java_tokens.specs.Lexemes.{jml_length, run_lexeme, plain_lexeme, lexemes_behind}
use Rattle.jd_java_tokens.specs.Words as words
use Rattle.jd_java_tokens.specs.Words.{content_of, kind_of, number_kind, word_kind}
use Rattle.jd_names.specs.Identifiers.{is_identifier, is_java_byte}
use Rattle.jd_java_names.proofs.Words.{IsJavaWord}
use Rattle.jd_java_names.proofs.Tokens.{HaveWords, tokens_have}
use Rattle.jd_resolved_bodies.specs.Lexical.{IsName}

abbrev pub Unmarked : List ℕ → Type 0
Unmarked x = list_all (λ b. not (b == 39)) x ≡ true

pub record TokenSo (l : PlainLexeme) : Type 0 where
  pub named : IsName (word_in l.content)
  pub unmarked : Unmarked (word_in l.content)
  pub number : number_in l.content ≤ 2147483648
  pub literal : l.kind ≡ kinds.NUMBER → number_in l.content ≤ 2147483647
  pub identifier : l.kind ≡ kinds.IDENTIFIER → word_in l.content ≢ codes "this"

-- ---- words

java_unmarked : (b : ℕ) → is_java_byte b ≡ true → not (b == 39) ≡ true
java_unmarked b e = grind (arith, nat_tests)

java_no_at : (b : ℕ) → is_java_byte b ≡ true → nat_eq b 64 ≡ false
java_no_at b e = grind (arith, nat_tests)

both_so : (a b : Bool) → a ≡ true → b ≡ true → a && b ≡ true
both_so true b e f = f
both_so false b e f = absurd cc

all_unmarked : (w : List ℕ) → list_all is_java_byte w ≡ true → Unmarked w
all_unmarked [] e = refl
all_unmarked (b ∷ w) e = let h = and_parts (is_java_byte b) (list_all is_java_byte w) e in both_so (not (b == 39)) _ (java_unmarked b h.0) (all_unmarked w h.1)

word_bytes : (w : List ℕ) → is_identifier w ≡ true → list_all is_java_byte w ≡ true
word_bytes [] e = refl
word_bytes (b ∷ w) e = (and_parts _ (list_all is_java_byte (b ∷ w)) e).1

word_named : (w : List ℕ) → list_all is_java_byte w ≡ true → IsName w
word_named [] e = refl
word_named (b ∷ w) e = java_no_at b (and_parts (is_java_byte b) (list_all is_java_byte w) e).0

this_is_reserved : (w : List ℕ) → word_kind w ≡ kinds.IDENTIFIER → w ≢ codes "this"
this_is_reserved w e same = true≢false (sym (ap (λ k. nat_eq k kinds.IDENTIFIER) (sym (ap word_kind same) ∙ e)))

-- ---- numbers

few : (z : ℤ) → words.number_of z ≤ 2147483648
few (pos n) = by (nat_le n 2147483648) refl
  where
    by : (b : Bool) → nat_le n 2147483648 ≡ b → cond b n 0 ≤ 2147483648
    by true e = grind (arith, nat_tests)
    by false e = omega arith
few (negsuc n) = omega arith

fewer : (z : ℤ) → number_kind z ≡ kinds.NUMBER → words.number_of z ≤ 2147483647
fewer (pos n) e = by (nat_lt n 2147483648) refl (nat_eq n 2147483648) e (nat_le n 2147483648) refl
  where
    by : (a : Bool) → nat_lt n 2147483648 ≡ a → (b : Bool) → cond a kinds.NUMBER (cond b kinds.LEAST_NUMBER kinds.UNUSED) ≡ kinds.NUMBER → (c : Bool) → nat_le n 2147483648 ≡ c → cond c n 0 ≤ 2147483647
    by true is b k true f = grind (arith, nat_tests)
    by true is b k false f = omega arith
    by false is true k c f = absurd (true≢false (sym (ap (λ x. nat_eq x kinds.NUMBER) k)))
    by false is false k c f = absurd (true≢false (sym (ap (λ x. nat_eq x kinds.NUMBER) k)))
fewer (negsuc n) e = omega arith

-- ---- tokens

kind_so : (k : Kind) (at : ℕ) → IsJavaWord k → TokenSo (record { kind = kind_of k; at = at; content = content_of k })
kind_so (lexed.Word w) at h =
    let b = word_bytes w h in record { named = word_named w b; unmarked = all_unmarked w b; number = omega arith; literal = λ e. omega arith; identifier = this_is_reserved w }
kind_so (lexed.Number z) at h = record { named = refl; unmarked = refl; number = few z; literal = fewer z; identifier = λ e same. cc }
kind_so (lexed.Sign w) at h = record { named = refl; unmarked = refl; number = omega arith; literal = λ e. omega arith; identifier = λ e same. cc }

run_so : (n m at : ℕ) → TokenSo (run_lexeme n m at)
run_so n m at = record { named = refl; unmarked = refl; number = omega arith; literal = λ e. omega arith; identifier = λ e same. cc }

either_so : (j i : Bool) (inside outside : List PlainLexeme) (run token : PlainLexeme) → Every TokenSo inside → Every TokenSo outside → TokenSo run → (j ≡ false → TokenSo token)
    → Every TokenSo (cond j (cond i inside (run ∷ inside)) (token ∷ outside))
either_so true true inside outside run token h g r t = h
either_so true false inside outside run token h g r t = (r, h)
either_so false i inside outside run token h g r t = (t refl, g)

lexemes_so : (in_jml : Bool) (number : ℕ) (ts : List Token) → HaveWords ts → Every TokenSo (lexemes_behind in_jml number ts)
lexemes_so in_jml number [] h = tt
lexemes_so in_jml number (t ∷ ts) h =
    either_so t.jml in_jml (lexemes_behind true (number + 1) ts) (lexemes_behind false (number + 1) ts) (run_lexeme number (number + (1 + jml_length ts)) t.begins) (plain_lexeme t)
    (lexemes_so true (number + 1) ts h.1) (lexemes_so false (number + 1) ts h.1) (run_so number (number + (1 + jml_length ts)) t.begins) (λ e. kind_so t.kind t.begins (h.0 e))

pub seen_so : (bytes : List ℕ) (tokens : List Token) → Spells bytes tokens → Every TokenSo (lexemes_behind false 0 tokens)
seen_so bytes tokens s = lexemes_so false 0 tokens (tokens_have bytes tokens s)

-- ---- the first of some

pub text_named : (ts : List PlainLexeme) → Every TokenSo ts → IsName (text_of ts)
text_named [] h = refl
text_named (t ∷ ts) h = h.0.named

pub text_unmarked : (ts : List PlainLexeme) → Every TokenSo ts → Unmarked (text_of ts)
text_unmarked [] h = refl
text_unmarked (t ∷ ts) h = h.0.unmarked

pub number_few : (ts : List PlainLexeme) → Every TokenSo ts → number_of ts ≤ 2147483648
number_few [] h = omega arith
number_few (t ∷ ts) h = h.0.number
