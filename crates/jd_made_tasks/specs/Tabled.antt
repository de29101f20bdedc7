-- The tables of a program.
use Rattle.std.specs.Prelude.{◌≡◌, ◌⊎◌, ℕ, true, List}
use Rattle.jd_syntax.specs.JavaTrees.{JavaUnit}
use Rattle.jd_classes.specs.Tables.{AreTables}
use Rattle.jd_classes.specs.declared.classes.Classes.{Classes}
use Rattle.jd_bodies.specs.Declarations.{Declarations}
use Rattle.jd_refusals.specs.Resolving.{AreResolved}
use Rattle.jd_refusals.specs.declared.resolving.Resolved.{Resolved}
use Rattle.jd_model.specs.ContractForms.{PlainContracts}
use Rattle.jd_jml_formulas.specs.declared.whole.Unmade.{Unmade}
use Rattle.jd_jml_meaning.specs.JmlCases.{JmlProgram}
use Rattle.jd_programs.specs.Cases.{all_cases}
use Rattle.jd_programs.specs.Programs.{IsProgram}
use Rattle.jd_listed_tables.specs.Listed.{invariant_rows, tables}
use Rattle.jd_case_tables.specs.Large.{TellsOfCases}
use Rattle.jd_body_tables.specs.Invariants.{TellsOfInvariants}
use Rattle.jd_first_form.specs.Forms.{is_first_form}

-- a formula may have so many nodes
abbrev pub node_limit : ℕ
node_limit = 100000

module _ (units : List JavaUnit) (j : JmlProgram) (is : IsProgram units j) where
  abbrev pub AreTabled : PlainContracts → Type 0
  AreTabled t = t ≡ tables units is.declarations j.program j.own

  -- why they are not made: a formula of a case or of an invariant is too large
  abbrev pub TellsOfTables : Unmade → Type 0
  TellsOfTables u = TellsOfCases node_limit j.program (all_cases units j.program.superclasses is.declarations (λ m. m)) u ⊎ TellsOfInvariants node_limit (invariant_rows units is.declarations j.program j.own) u

-- they are those of a program that has an obligation, with these classes
pub record AreOfForm (c : Classes) (t : PlainContracts) : Type 0 where
  pub units : List JavaUnit
  pub program : JmlProgram
  pub is : IsProgram units program
  pub classes : AreTables units c
  pub form : is_first_form is.declarations units ≡ true
  pub tabled : AreTabled units program is t

-- a program that has an obligation declares this, has these classes, and is resolved to this
pub record IsOfForm (d : Declarations) (c : Classes) (r : Resolved) : Type 0 where
  pub units : List JavaUnit
  pub program : JmlProgram
  pub is : IsProgram units program
  pub classes : AreTables units c
  pub resolved : AreResolved units r
  pub declared : is.declarations ≡ d
  pub form : is_first_form is.declarations units ≡ true
