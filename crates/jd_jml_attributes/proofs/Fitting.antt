-- The rows are those of the productions.
use Rattle.std.proofs.Common.{◌≡◌, ℕ, List, map, Some, refl, sym, ap, ◌∙◌, slice_index_or}
use Rattle.std.specs.Prelude.{option_map}
use Rattle.std.proofs.lemmas.Option.{get_or_from_slice_get, slice_get-map}
use Rattle.std.proofs.Math.ListN.{get_or-map}
use Rattle.std.specs.List.{slice_get}
use Rattle.jd_grammar.specs.Folds.{AritiesFit, name_count}
use Rattle.jd_grammar.specs.Grammars.{Production}
use Rattle.jd_jml_grammar.specs.Productions.{jml_productions}
use Rattle.jd_jml_attributes.specs.declared.rows.Rule.{Rule}
use Rattle.jd_jml_attributes.specs.declared.rows.TheConstants.{ROWS, NO_ROW}
use Rattle.jd_jml_attributes.specs.Judging.{names_of}

abbrev Row : Type 0
Row = ℕ × Rule

-- where lists of what rows tell and of what productions tell are the same, so are those of each number
told : (rows : List Row) (productions : List Production) (of_row : Row → ℕ) (of : Production → ℕ) (p : ℕ) (r : Production) → map of_row rows ≡ map of productions → slice_get productions p ≡ Some r → of_row (slice_index_or rows p NO_ROW) ≡ of r
told rows productions of_row of p r same there =
    sym (get_or-map of_row rows p NO_ROW)
    ∙ (ap (λ xs. slice_index_or xs p (of_row NO_ROW)) same
    ∙ get_or_from_slice_get (map of productions) p (of r) (of_row NO_ROW) (slice_get-map of productions p ∙ ap (option_map of) there))

pub arities_fit : AritiesFit jml_productions names_of
arities_fit p r there = told ROWS jml_productions (λ row. row.0) (λ r. name_count r.body) p r refl there
