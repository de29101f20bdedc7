-- The rows are those of the grammar's productions.
use Rattle.jd_grammar.specs.Folds.{AritiesFit}
use Rattle.jd_jml_grammar.specs.Productions.{jml_productions}
use Rattle.jd_jml_attributes.specs.Judging.{names_of}

pub record RowsFit : Type 0 where
  pub names : AritiesFit jml_productions names_of
