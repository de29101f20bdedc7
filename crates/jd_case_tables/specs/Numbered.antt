-- Rows of contracts one behind the other, of one class and one method.
use Rattle.std.specs.Prelude.{ℕ, suc, List, [], ◌∷◌, Option, Some, None}
use Rattle.jd_syntax.specs.SpecTrees.{PlainClause}
use Rattle.jd_bodies.specs.Declarations.{Declarations}
use Rattle.jd_model.specs.ContractForms.{PlainCase}
use Rattle.jd_model.specs.Programs.{Body, Program}
use Rattle.jd_case_rows.specs.Rows.{spelled_for}
use Rattle.jd_jml_meaning.specs.ContractFormulas.{contract_of}
use Rattle.jd_jml_meaning.specs.JmlContracts.{JmlContract}
use Rattle.jd_row_makers.specs.Rows.{row_with}
use Rattle.jd_specifications.specs.WrittenCases.{contract}
use Rattle.jd_case_tables.specs.Placed.{Place}

-- the contract of a case that is written at a declaration, where that is there
abbrev pub contracts_by : Declarations → Option Place → List PlainClause → List JmlContract
contracts_by d None cs = []
contracts_by d (Some w) cs = contract d w.0 w.1 cs ∷ []

module _ (p : Program) (fields : ℕ → List ℕ) (b : Body) (class method : ℕ) where
  -- numbered from this number on
  abbrev pub rows_from : ℕ → List JmlContract → List PlainCase
  rows_from n [] = []
  rows_from n (x ∷ xs) = row_with p fields method class n (contract_of p (spelled_for b x)) ∷ rows_from (suc n) xs
