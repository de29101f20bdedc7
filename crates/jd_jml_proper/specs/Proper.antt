-- What the attributes of a derivation tell of its casts and sums.
use Rattle.std.specs.Prelude.{◌≡◌, ℕ, List, [], ◌∷◌, None}
use Rattle.jd_grammar.specs.Grammars.{Forest, IsForest}
use Rattle.jd_grammar.specs.declared.table.Symbol.TheVariants.{Name}
use Rattle.jd_jml_grammar.specs.Productions.{jml_productions}
use Rattle.jd_jml_tokens.specs.Lexemes.{PlainLexeme}
use Rattle.jd_jml_attributes.specs.Judging.{form_of}
use Rattle.jd_jml_texts.specs.Kept.{IsProper}

-- a derivation of a name
abbrev pub FaultlessIsProper : Type 0
FaultlessIsProper =
    (f : Forest) (name : ℕ) (ts : List PlainLexeme) → IsForest jml_productions f (Name name ∷ []) [] → (form_of f ts).fault ≡ None → IsProper f ts
