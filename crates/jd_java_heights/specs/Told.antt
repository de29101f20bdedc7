-- What the attributes of a derivation of a file tell of heights.
use Rattle.std.specs.Prelude.{◌≡◌, ◌↔◌, ◌≤◌, min, List, [], ◌∷◌, None}
use Rattle.jd_grammar.specs.Grammars.{Forest, IsForest}
use Rattle.jd_grammar.specs.declared.table.Symbol.TheVariants.{Name}
use Rattle.jd_java_grammar.specs.Productions.{java_productions}
use Rattle.jd_java_grammar.specs.declared.names.TheConstants.{COMPILATION_UNIT}
use Rattle.jd_java_tokens.specs.Contents.{PlainLexeme}
use Rattle.jd_java_attributes.specs.Judging.{attributes_of}
use Rattle.jd_java_trees.specs.Meaning.{unit_of}
use Rattle.jd_java_texts.specs.Kept.{IsProper}
use Rattle.jd_java_heights.specs.Heights.{highest_expression, highest_statement}

-- neither an expression nor a statement is higher than 200
abbrev pub IsLow : Forest → List PlainLexeme → Type 0
IsLow f ts = (highest_expression (unit_of f ts) ≤ 200) × (highest_statement (unit_of f ts) ≤ 200)

-- Of a derivation of a file in which casts stand behind names, as they do where it has no fault. (Of another expression in the parentheses
-- of a cast the tree has nothing, and the attributes its height.)
pub record HeightsAreTold : Type 0 where
  -- the height of the highest expression, but for what is above 201
  pub expressions : (f : Forest) (ts : List PlainLexeme) → IsForest java_productions f (Name COMPILATION_UNIT ∷ []) [] → IsProper f ts
      → (attributes_of f ts).form.height ≡ min (highest_expression (unit_of f ts)) 201
  -- and of the highest statement
  pub statements : (f : Forest) (ts : List PlainLexeme) → IsForest java_productions f (Name COMPILATION_UNIT ∷ []) [] → IsProper f ts
      → (attributes_of f ts).form.nesting ≡ min (highest_statement (unit_of f ts)) 201
  -- a place of what is too high, exactly where an expression or a statement is
  pub high : (f : Forest) (ts : List PlainLexeme) → IsForest java_productions f (Name COMPILATION_UNIT ∷ []) [] → IsProper f ts
      → ((attributes_of f ts).form.high ≡ None) ↔ IsLow f ts
