-- The listed tables are made of the program's cases, invariants and bodies.
use Rattle.std.proofs.Common.{ℕ, List, sym, subst}
use Rattle.std.specs.List.{slice_get}
use Rattle.jd_syntax.specs.JavaTrees.{JavaUnit}
use Rattle.jd_body_variables.specs.Laws.{BodiesBeginWithParameters}
use Rattle.jd_jml_meaning.specs.JmlCases.{JmlProgram}
use Rattle.jd_programs.specs.Cases.{all_cases}
use Rattle.jd_programs.specs.Programs.{IsProgram}
use Rattle.jd_listed_tables.specs.Laws.{FamiliesPlayNoPart}
use Rattle.jd_listed_tables.specs.Listed.{case_rows, fields_along}
use Rattle.jd_program_tables.specs.Laws.{ListedTablesAreMade}
use Rattle.jd_program_tables.specs.Made.{RowAt}
use Rattle.jd_program_tables.proofs.ListedBodies.{bodies_listed}
use Rattle.jd_program_tables.proofs.ListedCases.{each_runs, rows_at}
use Rattle.jd_program_tables.proofs.ListedInvariants.{invariants_listed}

module _ (units : List JavaUnit) (j : JmlProgram) (is : IsProgram units j) where
  abbrev listed_fields : ℕ → List ℕ
  listed_fields = fields_along units j.program.superclasses

  cases_listed : FamiliesPlayNoPart → (κ : ℕ) → RowAt j listed_fields (slice_get (case_rows units is.declarations j.program j.own) κ) (j.case κ)
  cases_listed same κ =
      let cases = all_cases units j.program.superclasses is.declarations is.family in
      subst (RowAt j listed_fields (slice_get (case_rows units is.declarations j.program j.own) κ)) (sym (is.cases κ))
      (subst (λ rows. RowAt j listed_fields (slice_get rows κ) (slice_get cases κ)) (same units j.program.superclasses is.declarations j.program listed_fields is.family (λ m. m))
      (rows_at j listed_fields cases (each_runs units j is) κ))

pub made : BodiesBeginWithParameters → FamiliesPlayNoPart → ListedTablesAreMade
made begin same units are j is = record {
  cases = cases_listed units j is same;
  invariants = invariants_listed units j is;
  bodies = bodies_listed begin units j is;
}
