-- Tables of rows that are made of a program's cases, invariants and bodies.
use Rattle.std.specs.Prelude.{◌≡◌, ℕ, List, slice_get, Option, Some, None}
use Rattle.jd_model.specs.Programs.{Body}
use Rattle.jd_model.specs.ContractForms.{PlainCase, PlainContracts}
use Rattle.jd_model.specs.Tables.{BodyAt, body_in, invariants_in}
use Rattle.jd_jml_meaning.specs.InvariantFormulas.{invariant_formulas}
use Rattle.jd_jml_meaning.specs.JmlCases.{JmlCase, JmlProgram}
use Rattle.jd_case_rows.specs.Rows.{row_of}

module _ (j : JmlProgram) (fields : ℕ → List ℕ) where
  -- a row of each case, made for the body that it runs
  abbrev pub RowAt : Option PlainCase → Option JmlCase → Type 0
  RowAt None None = Unit {0}
  RowAt (Some f) (Some c) = (b : Body) × (j.program.body c.body ≡ Some b) × (f ≡ row_of j.program fields c b)
  RowAt f c = ⊥

  pub record AreMadeOf (t : PlainContracts) : Type 0 where
    pub cases : (κ : ℕ) → RowAt (slice_get t.cases κ) (j.case κ)
    pub invariants : (c : ℕ) → invariants_in t.invariants c ≡ invariant_formulas j.program (j.own c)
    pub bodies : (m : ℕ) → BodyAt (body_in t.bodies m) (j.program.body m)
