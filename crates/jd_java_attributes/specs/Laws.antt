-- The rows are those of the grammar's productions.
use Rattle.std.specs.Prelude.{◌≡◌, ℕ, List, [], ◌∷◌, ◌+◌, Some}
use Rattle.std.specs.List.{slice_get}
use Rattle.jd_grammar.specs.Folds.{AritiesFit}
use Rattle.jd_grammar.specs.Grammars.{Production}
use Rattle.jd_grammar.specs.declared.table.Symbol.{Symbol}
use Rattle.jd_grammar.specs.declared.table.Symbol.TheVariants.{Token, Name}
use Rattle.jd_java_grammar.specs.Productions.{java_productions}
use Rattle.jd_java_attributes.specs.Rules.{row_of}
use Rattle.jd_java_attributes.specs.Judging.{names_of}

abbrev pub token_count : List Symbol → ℕ
token_count [] = 0
token_count (Token k ∷ ss) = 1 + token_count ss
token_count (Name a ∷ ss) = token_count ss

pub record RowsFit : Type 0 where
  pub names : AritiesFit java_productions names_of
  pub tokens : (p : ℕ) (r : Production) → slice_get java_productions p ≡ Some r → (row_of p).0 ≡ token_count r.body
