-- That the text of clauses is read as the same clauses.
use Rattle.std.specs.Prelude.{◌≡◌, ℕ, List, map}
use Rattle.jd_lex.specs.Lexing.{Spells}
use Rattle.jd_lex.specs.Parts.{Token}
use Rattle.jd_syntax.specs.SpecTrees.{PlainClause}
use Rattle.jd_syntax.specs.declared.spec.SpecPlace.{SpecPlace}
use Rattle.jd_jml_places.specs.Unplaced.{unplaced_clause}
use Rattle.jd_jml_print.specs.Texts.{printed}
use Rattle.jd_jml_reprinted.specs.Reprinted.{AreAmong}
use Rattle.jd_jmlparse.specs.Parses.{Reads}

-- the same clauses but for where they stand
abbrev pub Same : List PlainClause → List PlainClause → Type 0
Same cs ds = map unplaced_clause cs ≡ map unplaced_clause ds

-- some of the tokens of a text spell clauses at the place that are these but for where they stand: the place's grammar has them
pub record HasThem (place : SpecPlace) (cs : List PlainClause) : Type 0 where
  pub bytes : List ℕ
  pub tokens : List Token
  pub spelled : Spells bytes tokens
  pub among : List Token
  pub there : AreAmong among tokens
  pub clauses : List PlainClause
  pub read : Reads place among clauses
  pub same : Same cs clauses

-- the text spells tokens that are read there as the same clauses
pub record IsReadAs (place : SpecPlace) (text : List ℕ) (cs : List PlainClause) : Type 0 where
  pub tokens : List Token
  pub spelled : Spells text tokens
  pub clauses : List PlainClause
  pub read : Reads place tokens clauses
  pub same : Same cs clauses

-- What is printed of clauses is read as the same clauses at each place whose grammar has them.
abbrev pub PrintedIsReadBack : Type 0
PrintedIsReadBack = (place : SpecPlace) (cs : List PlainClause) → HasThem place cs → IsReadAs place (printed cs) cs
