-- That what is read does not hang on places.
use Rattle.std.specs.Prelude.{◌≡◌, List, map, None}
use Rattle.jd_grammar.specs.Grammars.{Forest}
use Rattle.jd_jml_tokens.specs.Lexemes.{PlainLexeme}
use Rattle.jd_jml_attributes.specs.Judging.{form_of}
use Rattle.jd_jml_trees.specs.Meaning.{clauses_of_tree}
use Rattle.jd_jml_places.specs.Unplaced.{unplaced_clause, Alike}

-- A derivation over tokens that are the same but for their places stands for clauses that are the same but for theirs; it is without
-- fault, and nothing in it is too high, over both or over none.
pub record PlacesAreApart : Type 0 where
  pub clauses : (f : Forest) (ts us : List PlainLexeme) → Alike ts us → map unplaced_clause (clauses_of_tree f ts) ≡ map unplaced_clause (clauses_of_tree f us)
  pub faultless : (f : Forest) (ts us : List PlainLexeme) → Alike ts us → (form_of f ts).fault ≡ None → (form_of f us).fault ≡ None
  pub within : (f : Forest) (ts us : List PlainLexeme) → Alike ts us → (form_of f ts).high ≡ None → (form_of f us).high ≡ None
