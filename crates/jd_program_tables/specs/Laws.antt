-- That such tables stand for the program.
use Rattle.std.specs.Prelude.{◌≡◌, ℕ, List, None}
use Rattle.jd_syntax.specs.JavaTrees.{JavaUnit}
use Rattle.jd_jclasses.specs.Refusals.{AreClasses}
use Rattle.jd_model.specs.ContractForms.{PlainContracts}
use Rattle.jd_model.specs.Tables.{TablesStandFor}
use Rattle.jd_bodies.specs.Refused as bodies
use Rattle.jd_specifications.specs.Refused as jml
use Rattle.jd_jml_meaning.specs.JmlCases.{JmlProgram, specified}
use Rattle.jd_case_rows.specs.Laws.{AreFieldLists}
use Rattle.jd_programs.specs.Programs.{IsProgram}
use Rattle.jd_listed_tables.specs.Listed.{fields_along, tables}
use Rattle.jd_program_laws.specs.Laws.{HaveParameterNames}
use Rattle.jd_program_tables.specs.Made.{AreMadeOf}

abbrev pub TablesOfProgramsStand : Type 0
TablesOfProgramsStand =
    (units : List JavaUnit) → AreClasses units → HaveParameterNames units → (j : JmlProgram) (is : IsProgram units j)
    → bodies.first_fault is.declarations units ≡ None → jml.first_fault is.declarations units ≡ None
    → (fields : ℕ → List ℕ) → AreFieldLists j.program fields → (t : PlainContracts) → AreMadeOf j fields t → TablesStandFor t (specified j)

-- the tables that are listed are such tables
abbrev pub ListedTablesAreMade : Type 0
ListedTablesAreMade =
    (units : List JavaUnit) → AreClasses units → (j : JmlProgram) (is : IsProgram units j)
    → AreMadeOf j (fields_along units j.program.superclasses) (tables units is.declarations j.program j.own)

abbrev pub ListedFieldsAreThose : Type 0
ListedFieldsAreThose = (units : List JavaUnit) → AreClasses units → (j : JmlProgram) → IsProgram units j → AreFieldLists j.program (fields_along units j.program.superclasses)
