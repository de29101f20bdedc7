-- The numbers that the tokens of a text have fit.
use Rattle.std.proofs.Common.{Bool, List, None, Option, Some, [], arith, false, inl, inr, length, pos, subst, sym, true, ◌+◌, ◌++◌, ◌∷◌, ◌≡◌, ◌≤◌, ℕ}
use Rattle.std.specs.List.{AllByRecursion as Every}
use Rattle.jd_java_names.proofs.Every.{every_append}
use Rattle.jd_jml_literals.specs.Fitting.{LiteralFits, greatest}
use Rattle.jd_jml_tokens.specs.Lexemes.{number_in}
use Rattle.jd_lex.specs.Lexing.{CommentGives, IsJavaPart, IsJmlPart, JavaPart, JmlPart, Parts, Reach, Spells, tokens_of}
use Rattle.jd_lex.specs.Parts.{IsPlain, Part, Token, jml_text, limit, start_of}
use Rattle.jd_lex.specs.declared.starts.Start.{Start}
use Rattle.jd_lex.specs.declared.starts.Start.TheVariants.{BlockComment, LineComment, NumberStart, SignStart, White, WordStart}

abbrev pub TokenFits : Token → Type 0
TokenFits t = LiteralFits (number_in t.kind)

abbrev AllFit : List Token → Type 0
AllFit ts = Every TokenFits ts

pub zero_fits : LiteralFits (pos 0)
zero_fits = omega arith

none_fit : (ts : List Token) → ts ≡ [] → AllFit ts
none_fit ts e = subst AllFit (sym e) tt

below_greatest : (jml : Bool) (n : ℕ) → n ≤ limit jml → n ≤ greatest
below_greatest true n le = le
below_greatest false n le = omega (arith, le)

-- ---- parts in a row

parts_fit : (IsPart : Parts) → ((at : ℕ) (p : Part) (rest : List ℕ) → IsPart at p rest → AllFit p.tokens)
    → (ps : List Part) (from : ℕ) (bytes : List ℕ) (at : ℕ) (rest : List ℕ) → Reach IsPart ps from bytes at rest → AllFit (tokens_of ps)
parts_fit IsPart each [] from bytes at rest h = tt
parts_fit IsPart each (p ∷ ps) from bytes at rest (some, behind, joined, part, more) =
    every_append TokenFits p.tokens (tokens_of ps) (each from p behind part) (parts_fit IsPart each ps (from + length p.text) behind at rest more)

plain_fits : (s : Start) (jml : Bool) (at : ℕ) (p : Part) (rest : List ℕ) → IsPlain s jml at p rest → AllFit p.tokens
plain_fits White jml at p rest h = none_fit p.tokens h.1
plain_fits WordStart jml at p rest h = subst AllFit (sym h.1) (zero_fits, tt)
plain_fits NumberStart jml at p rest h = subst AllFit (sym h.2) (below_greatest jml _ h.1, tt)
plain_fits LineComment jml at p rest h = absurd h
plain_fits BlockComment jml at p rest h = absurd h
plain_fits SignStart jml at p rest h = subst AllFit (sym h.1) (zero_fits, tt)

-- ---- JML

jml_by : (s : Start) (at : ℕ) (p : Part) (rest : List ℕ) → JmlPart s at p rest → AllFit p.tokens
jml_by White at p rest h = plain_fits White true at p rest h
jml_by WordStart at p rest h = plain_fits WordStart true at p rest h
jml_by NumberStart at p rest h = plain_fits NumberStart true at p rest h
jml_by SignStart at p rest h = plain_fits SignStart true at p rest h
jml_by LineComment at p rest (body, comment, e) = none_fit p.tokens e
jml_by BlockComment at p rest (inl (body, comment, e)) = none_fit p.tokens e
jml_by BlockComment at p rest (inr (opens, plain)) = plain_fits SignStart true at p rest plain

jml_part : (at : ℕ) (p : Part) (rest : List ℕ) → IsJmlPart at p rest → AllFit p.tokens
jml_part at p rest h = jml_by (start_of true (p.text ++ rest)) at p rest h

comment_fits : (at : ℕ) (text : Option (List ℕ)) (tokens : List Token) → CommentGives at text tokens → AllFit tokens
comment_fits at None tokens e = none_fit tokens e
comment_fits at (Some text) tokens w =
    subst AllFit (sym w.leads.given) (parts_fit IsJmlPart jml_part w.leads.parts (at + 3) text w.end [] w.leads.reach)

-- ---- Java

java_by : (s : Start) (at : ℕ) (p : Part) (rest : List ℕ) → JavaPart s at p rest → AllFit p.tokens
java_by White at p rest h = plain_fits White false at p rest h
java_by WordStart at p rest h = plain_fits WordStart false at p rest h
java_by NumberStart at p rest h = plain_fits NumberStart false at p rest h
java_by SignStart at p rest h = plain_fits SignStart false at p rest h
java_by LineComment at p rest (body, comment, gives) = comment_fits at (jml_text false body) p.tokens gives
java_by BlockComment at p rest (body, comment, gives) = comment_fits at (jml_text true body) p.tokens gives

java_part : (at : ℕ) (p : Part) (rest : List ℕ) → IsJavaPart at p rest → AllFit p.tokens
java_part at p rest h = java_by (start_of false (p.text ++ rest)) at p rest h

pub tokens_fit : (bytes : List ℕ) (tokens : List Token) → Spells bytes tokens → Every TokenFits tokens
tokens_fit bytes tokens s =
    let leads = s.parts.leads in
    subst AllFit (sym leads.given) (parts_fit IsJavaPart java_part leads.parts 0 bytes s.parts.end [] leads.reach)
