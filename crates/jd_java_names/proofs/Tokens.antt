-- The lexemes of a text's tokens have identifiers where their kind says so.
use Rattle.std.proofs.Common.{◌≡◌, ℕ, ◌+◌, Bool, true, false, cond, Option, Some, None, List, [], ◌∷◌, ◌++◌, length, refl, sym, subst, inl, inr, true≢false}
use Rattle.std.specs.List.{AllByRecursion as Every}
use Rattle.jd_lex.specs.Parts.{Token, Part, start_of, jml_text, IsPlain}
use Rattle.jd_lex.specs.Lexing.{Parts, Reach, tokens_of, JmlPart, IsJmlPart, CommentGives, JavaPart, IsJavaPart, Spells}
use Rattle.jd_lex.specs.declared.starts.Start.{Start}
use Rattle.jd_lex.specs.declared.starts.Start.TheVariants.{White, WordStart, NumberStart, LineComment, BlockComment, SignStart}
use Rattle.jd_java_tokens.specs.Contents.{PlainLexeme}
use Rattle.jd_java_tokens.specs.Lexemes.{jml_length, run_lexeme, plain_lexeme, lexemes_behind}
use Rattle.jd_java_names.proofs.Every.{every_append}
use Rattle.jd_java_names.proofs.Words.{word_named, IsJavaWord, kind_named, run_named}
use Rattle.jd_java_names.proofs.Trees.{IsSo}

-- a word outside JML is an identifier
abbrev pub HasWord : Token → Type 0
HasWord t = t.jml ≡ false → IsJavaWord t.kind

abbrev pub HaveWords : List Token → Type 0
HaveWords ts = Every HasWord ts

none_have : (ts : List Token) → ts ≡ [] → HaveWords ts
none_have ts e = subst HaveWords (sym e) tt

-- ---- parts in a row

parts_have : (IsPart : Parts) → ((at : ℕ) (p : Part) (rest : List ℕ) → IsPart at p rest → HaveWords p.tokens)
    → (ps : List Part) (from : ℕ) (bytes : List ℕ) (at : ℕ) (rest : List ℕ) → Reach IsPart ps from bytes at rest → HaveWords (tokens_of ps)
parts_have IsPart each [] from bytes at rest h = tt
parts_have IsPart each (p ∷ ps) from bytes at rest (some, behind, joined, part, more) =
    every_append HasWord p.tokens (tokens_of ps) (each from p behind part) (parts_have IsPart each ps (from + length p.text) behind at rest more)

-- ---- JML

plain_jml : (s : Start) (at : ℕ) (p : Part) (rest : List ℕ) → IsPlain s true at p rest → HaveWords p.tokens
plain_jml White at p rest h = none_have p.tokens h.1
plain_jml WordStart at p rest h = subst HaveWords (sym h.1) (λ e. absurd (true≢false e), tt)
plain_jml NumberStart at p rest h = subst HaveWords (sym h.2) (λ e. tt, tt)
plain_jml LineComment at p rest h = absurd h
plain_jml BlockComment at p rest h = absurd h
plain_jml SignStart at p rest h = subst HaveWords (sym h.1) (λ e. tt, tt)

jml_by : (s : Start) (at : ℕ) (p : Part) (rest : List ℕ) → JmlPart s at p rest → HaveWords p.tokens
jml_by White at p rest h = plain_jml White at p rest h
jml_by WordStart at p rest h = plain_jml WordStart at p rest h
jml_by NumberStart at p rest h = plain_jml NumberStart at p rest h
jml_by SignStart at p rest h = plain_jml SignStart at p rest h
jml_by LineComment at p rest (body, comment, e) = none_have p.tokens e
jml_by BlockComment at p rest (inl (body, comment, e)) = none_have p.tokens e
jml_by BlockComment at p rest (inr (opens, plain)) = plain_jml SignStart at p rest plain

jml_part : (at : ℕ) (p : Part) (rest : List ℕ) → IsJmlPart at p rest → HaveWords p.tokens
jml_part at p rest h = jml_by (start_of true (p.text ++ rest)) at p rest h

comment_has : (at : ℕ) (text : Option (List ℕ)) (tokens : List Token) → CommentGives at text tokens → HaveWords tokens
comment_has at None tokens e = none_have tokens e
comment_has at (Some text) tokens w =
    subst HaveWords (sym w.leads.given) (parts_have IsJmlPart jml_part w.leads.parts (at + 3) text w.end [] w.leads.reach)

-- ---- Java

java_by : (s : Start) (at : ℕ) (p : Part) (rest : List ℕ) → start_of false (p.text ++ rest) ≡ s → JavaPart s at p rest → HaveWords p.tokens
java_by White at p rest is h = none_have p.tokens h.1
java_by WordStart at p rest is h = subst HaveWords (sym h.1) (λ e. word_named p.text rest is h.0, tt)
java_by NumberStart at p rest is h = subst HaveWords (sym h.2) (λ e. tt, tt)
java_by SignStart at p rest is h = subst HaveWords (sym h.1) (λ e. tt, tt)
java_by LineComment at p rest is (body, comment, gives) = comment_has at (jml_text false body) p.tokens gives
java_by BlockComment at p rest is (body, comment, gives) = comment_has at (jml_text true body) p.tokens gives

java_part : (at : ℕ) (p : Part) (rest : List ℕ) → IsJavaPart at p rest → HaveWords p.tokens
java_part at p rest h = java_by (start_of false (p.text ++ rest)) at p rest refl h

pub tokens_have : (bytes : List ℕ) (tokens : List Token) → Spells bytes tokens → HaveWords tokens
tokens_have bytes tokens s =
    let leads = s.parts.leads in
    subst HaveWords (sym leads.given) (parts_have IsJavaPart java_part leads.parts 0 bytes s.parts.end [] leads.reach)

-- ---- lexemes

either_so : (j i : Bool) (inside outside : List PlainLexeme) (run token : PlainLexeme) → Every IsSo inside → Every IsSo outside
    → IsSo run → (j ≡ false → IsSo token)
    → Every IsSo (cond j (cond i inside (run ∷ inside)) (token ∷ outside))
either_so true true inside outside run token h g r t = h
either_so true false inside outside run token h g r t = (r, h)
either_so false i inside outside run token h g r t = (t refl, g)

lexemes_so : (in_jml : Bool) (number : ℕ) (ts : List Token) → HaveWords ts → Every IsSo (lexemes_behind in_jml number ts)
lexemes_so in_jml number [] h = tt
lexemes_so in_jml number (t ∷ ts) h =
    either_so t.jml in_jml (lexemes_behind true (number + 1) ts) (lexemes_behind false (number + 1) ts)
    (run_lexeme number (number + (1 + jml_length ts)) t.begins) (plain_lexeme t)
    (lexemes_so true (number + 1) ts h.1) (lexemes_so false (number + 1) ts h.1) (λ is. run_named _ is) (λ e. kind_named t.kind (h.0 e))

pub seen_so : (bytes : List ℕ) (tokens : List Token) → Spells bytes tokens → Every IsSo (lexemes_behind false 0 tokens)
seen_so bytes tokens s = lexemes_so false 0 tokens (tokens_have bytes tokens s)
