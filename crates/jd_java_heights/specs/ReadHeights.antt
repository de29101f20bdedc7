-- What is read of a file, and what is too deep, by how high its expressions and statements are.
use Rattle.std.specs.Prelude.{◌≡◌, ◌↔◌, ◌≤◌, ◌<◌, max, List, None}
use Rattle.jd_grammar.specs.Grammars.{Forest}
use Rattle.jd_lex.specs.Parts as lexed
use Rattle.jd_syntax.specs.JavaTrees.{JavaUnit}
use Rattle.jd_java_trees.specs.Meaning.{unit_of}
use Rattle.jd_jparse.specs.Parses.{seen, first_unsupported, Spells, Reads, IsTooDeep}
use Rattle.jd_java_heights.specs.Heights.{highest_expression, highest_statement}
use Rattle.jd_java_heights.specs.Told.{IsLow}

pub record ReadHeights : Type 0 where
  -- no expression and no statement that is read is higher than 200
  pub read : (ts : List lexed.Token) (tree : JavaUnit) → Reads ts tree → (highest_expression tree ≤ 200) × (highest_statement tree ≤ 200)
  -- what is spelled without fault, and where none is, is read
  pub reads : (ts : List lexed.Token) (file : Forest) → first_unsupported ts ≡ None → Spells ts file → IsLow file (seen ts)
      → Reads ts (unit_of file (seen ts))
  -- and it is too deep exactly where one is
  pub too_deep : (ts : List lexed.Token)
      → IsTooDeep ts ↔ ((first_unsupported ts ≡ None) × ((file : Forest) × Spells ts file
      × (200 < max (highest_expression (unit_of file (seen ts))) (highest_statement (unit_of file (seen ts))))))
