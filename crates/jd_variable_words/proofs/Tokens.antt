-- What identifiers give: words.
use Rattle.std.proofs.Common.{◌≡◌, ◌≢◌, ℕ, ◌+◌, Bool, true, false, cond, ◌&&◌, ◌||◌, not, nat_eq, List, [], ◌∷◌, codes, refl, sym, ap, ap₂, ◌∙◌, true≢false}
use Rattle.std.specs.List.{AllByRecursion as Every}
use Rattle.std.specs.Str.{bytes_eq}
use Rattle.std.proofs.lemmas.Slice.Eq.{bytes_eq-Decides}
use Rattle.jd_lex.specs.Parts.{Kind, Token}
use Rattle.jd_lex.specs.Parts as lexed
use Rattle.jd_lex.specs.Lexing.{Spells}
use Rattle.jd_java_grammar.specs.declared.kinds.TheConstants as kinds
use Rattle.jd_java_tokens.specs.Contents.{PlainLexeme}
use Rattle.jd_java_tokens.specs.Heads.{word_in}
use Rattle.jd_java_tokens.specs.Lexemes.{jml_length, run_lexeme, plain_lexeme, lexemes_behind}
use Rattle.jd_java_tokens.specs.Words.{content_of, kind_of, word_kind}
use Rattle.jd_java_names.proofs.Words.{IsJavaWord, kind_named, run_named}
use Rattle.jd_java_names.proofs.Tokens.{HaveWords, tokens_have}
use Rattle.jd_variable_words.specs.Words.{IsWord, is_literal_word}

abbrev pub TokenSo : PlainLexeme → Type 0
TokenSo l = l.kind ≡ kinds.IDENTIFIER → IsWord (word_in l.content)

-- a word that is reserved is no identifier
reserved : (v w : List ℕ) → nat_eq (word_kind v) kinds.IDENTIFIER ≡ false → word_kind w ≡ kinds.IDENTIFIER → bytes_eq v w ≡ false
reserved v w is e = by (bytes_eq v w) refl
  where
    by : (b : Bool) → bytes_eq v w ≡ b → b ≡ false
    by false f = refl
    by true f = absurd (true≢false (sym (ap (λ k. nat_eq k kinds.IDENTIFIER) (ap word_kind ((bytes_eq-Decides v w).0 f) ∙ e)) ∙ is))

no_literal : (w : List ℕ) → word_kind w ≡ kinds.IDENTIFIER → is_literal_word w ≡ false
no_literal w e = ap₂ (λ a b. a || b) (ap₂ (λ a b. a || b) (reserved (codes "true") w refl e) (reserved (codes "false") w refl e)) (reserved (codes "null") w refl e)

kind_so : (k : Kind) → IsJavaWord k → kind_of k ≡ kinds.IDENTIFIER → IsWord (word_in (content_of k))
kind_so (lexed.Word w) h is = ap₂ (λ a b. a && b) h (ap not (no_literal w is))
kind_so (lexed.Number z) h is = absurd (true≢false (sym (kind_named (lexed.Number z) h is)))
kind_so (lexed.Sign w) h is = absurd (true≢false (sym (kind_named (lexed.Sign w) h is)))

either_so : (j i : Bool) (inside outside : List PlainLexeme) (run token : PlainLexeme) → Every TokenSo inside → Every TokenSo outside → TokenSo run → (j ≡ false → TokenSo token)
    → Every TokenSo (cond j (cond i inside (run ∷ inside)) (token ∷ outside))
either_so true true inside outside run token h g r t = h
either_so true false inside outside run token h g r t = (r, h)
either_so false i inside outside run token h g r t = (t refl, g)

lexemes_so : (in_jml : Bool) (number : ℕ) (ts : List Token) → HaveWords ts → Every TokenSo (lexemes_behind in_jml number ts)
lexemes_so in_jml number [] h = tt
lexemes_so in_jml number (t ∷ ts) h =
    either_so t.jml in_jml (lexemes_behind true (number + 1) ts) (lexemes_behind false (number + 1) ts) (run_lexeme number (number + (1 + jml_length ts)) t.begins) (plain_lexeme t)
    (lexemes_so true (number + 1) ts h.1) (lexemes_so false (number + 1) ts h.1) (λ is. run_named _ is) (λ e. kind_so t.kind (h.0 e))

pub seen_so : (bytes : List ℕ) (tokens : List Token) → Spells bytes tokens → Every TokenSo (lexemes_behind false 0 tokens)
seen_so bytes tokens s = lexemes_so false 0 tokens (tokens_have bytes tokens s)
