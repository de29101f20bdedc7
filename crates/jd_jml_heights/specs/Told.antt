-- What the attributes of a derivation of JML tell of heights.
use Rattle.std.specs.Prelude.{◌≡◌, ◌↔◌, ℕ, ◌≤◌, min, List, [], ◌∷◌, None, true}
use Rattle.jd_grammar.specs.Grammars.{Forest, IsForest}
use Rattle.jd_grammar.specs.declared.table.Symbol.TheVariants.{Name}
use Rattle.jd_jml_grammar.specs.Jml.{is_place}
use Rattle.jd_jml_grammar.specs.Productions.{jml_productions}
use Rattle.jd_jml_tokens.specs.Lexemes.{PlainLexeme}
use Rattle.jd_jml_attributes.specs.Judging.{form_of}
use Rattle.jd_jml_trees.specs.Meaning.{clauses_of_tree}
use Rattle.jd_jml_texts.specs.Kept.{IsProper}
use Rattle.jd_jml_heights.specs.Heights.{highest}

-- Of a derivation of the JML of a place in which casts stand behind names and the ranges of sums are ones, as they do where it has no
-- fault. (Of another expression in the parentheses of a cast the tree has nothing, and the attributes its height.)
pub record HeightsAreTold : Type 0 where
  -- the height of the highest expression, but for what is above 201
  pub height : (f : Forest) (place : ℕ) (ts : List PlainLexeme) → is_place place ≡ true → IsForest jml_productions f (Name place ∷ []) [] → IsProper f ts
      → (form_of f ts).height ≡ min (highest (clauses_of_tree f ts)) 201
  -- a place of what is too high, exactly where an expression is
  pub high : (f : Forest) (place : ℕ) (ts : List PlainLexeme) → is_place place ≡ true → IsForest jml_productions f (Name place ∷ []) [] → IsProper f ts
      → ((form_of f ts).high ≡ None) ↔ (highest (clauses_of_tree f ts) ≤ 200)
