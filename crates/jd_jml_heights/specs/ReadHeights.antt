-- What is read at a place, and what is too deep, by how high the expressions are.
use Rattle.std.specs.Prelude.{◌↔◌, ◌≤◌, ◌<◌, List}
use Rattle.jd_grammar.specs.Grammars.{Forest}
use Rattle.jd_lex.specs.Parts as lexed
use Rattle.jd_syntax.specs.SpecTrees.{PlainClause}
use Rattle.jd_syntax.specs.declared.spec.SpecPlace.{SpecPlace}
use Rattle.jd_jml_tokens.specs.Lexemes.{lexemes_of}
use Rattle.jd_jml_trees.specs.Meaning.{clauses_of_tree}
use Rattle.jd_jmlparse.specs.Parses.{Spells, Reads, IsTooDeep}
use Rattle.jd_jml_heights.specs.Heights.{highest}

-- the clauses that a derivation of these tokens stands for
abbrev pub clauses_in : List lexed.Token → Forest → List PlainClause
clauses_in ts tree = clauses_of_tree tree (lexemes_of ts)

pub record ReadHeights : Type 0 where
  -- no expression that is read is higher than 200
  pub read : (place : SpecPlace) (ts : List lexed.Token) (cs : List PlainClause) → Reads place ts cs → highest cs ≤ 200
  -- what is spelled without fault, and where none is, is read
  pub reads : (place : SpecPlace) (ts : List lexed.Token) (tree : Forest) → Spells place ts tree → highest (clauses_in ts tree) ≤ 200
      → Reads place ts (clauses_in ts tree)
  -- and it is too deep exactly where one is
  pub too_deep : (place : SpecPlace) (ts : List lexed.Token)
      → IsTooDeep place ts ↔ ((tree : Forest) × Spells place ts tree × (200 < highest (clauses_in ts tree)))
