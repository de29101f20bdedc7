-- The members of an exit, by what is asked of each end.
use Rattle.std.specs.Prelude.{Bool, List, ◌∷◌, ◌++◌}
use Rattle.jd_syntax.specs.CodeNames.{heap_name}
use Rattle.jd_term.specs.Formulas.{PlainFormula, WellFormed}
use Rattle.jd_term.specs.Terms.{PlainLoc, ProgramVariable}
use Rattle.jd_oblig.specs.CaseObligations.{frame_members, invariant_members}

abbrev pub end_members : PlainFormula → PlainFormula → Bool → PlainLoc → List PlainFormula
end_members x y keeps l = WellFormed (ProgramVariable heap_name) ∷ x ∷ y ∷ (invariant_members keeps ++ frame_members l)
