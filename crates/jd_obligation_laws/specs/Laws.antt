-- That the obligation of each case is made of its row.
use Rattle.std.specs.Prelude.{◌≡◌, ℕ, List, None, Some}
use Rattle.jd_syntax.specs.JavaTrees.{JavaUnit}
use Rattle.jd_jclasses.specs.Refusals.{AreClasses}
use Rattle.jd_model.specs.ContractForms.{PlainContracts}
use Rattle.jd_model.specs.Programs.{Body}
use Rattle.jd_oblig.specs.KeptByObligations.{IsMadeOfRow}
use Rattle.jd_bodies.specs.Refused as bodies
use Rattle.jd_specifications.specs.Refused as jml
use Rattle.jd_jml_meaning.specs.JmlCases.{JmlCase, JmlProgram, case_of, specified}
use Rattle.jd_programs.specs.Programs.{IsProgram}
use Rattle.jd_case_obligations.specs.Listed.{case_sequent}
use Rattle.jd_program_tables.specs.Made.{AreMadeOf}

-- where no token of the bodies and of the JML is refused: that the measure is an integer rests on it
abbrev pub ObligationsAreMadeOfRows : Type 0
ObligationsAreMadeOfRows =
    (units : List JavaUnit) → AreClasses units → (j : JmlProgram) (is : IsProgram units j)
    → bodies.first_fault is.declarations units ≡ None → jml.first_fault is.declarations units ≡ None
    → (fields : ℕ → List ℕ) (t : PlainContracts) → AreMadeOf j fields t
    → (κ : ℕ) (c : JmlCase) → j.case κ ≡ Some c → (b : Body) → j.program.body c.body ≡ Some b
    → IsMadeOfRow t (specified j) κ (case_of j.program c) (case_sequent units j.program fields c b)
