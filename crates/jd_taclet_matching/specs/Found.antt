-- Matching at a place, with what was found before.
use Rattle.std.specs.Prelude.{None, Option, Some}
use Rattle.jd_model.specs.Places as places
use Rattle.jd_model.specs.Places.{FormulaPart, TermPart}
use Rattle.jd_patterns.specs.Bindings.{Bindings}
use Rattle.jd_patterns.specs.Matching.{match_formula, match_term}
use Rattle.jd_schema_matching.specs.Tested.{tests}
use Rattle.jd_taclets.specs.Taclets.{FormulaFind, Pattern, TermFind}

abbrev pub matched_from : Option Pattern → places.Part → Bindings → Option Bindings
matched_from (Some (FormulaFind a)) (FormulaPart x) τ = match_formula tests a x τ
matched_from (Some (TermFind p)) (TermPart x) τ = match_term tests p x τ
matched_from f x τ = None
