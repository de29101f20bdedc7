-- What is known of a case whose row stands for it.
use Rattle.std.specs.Prelude.{◌≡◌, ◌↔◌, ◌⊎◌, ℕ, true, List, [], ◌∷◌}
use Rattle.jd_model.specs.SpecialNames.{entry_heap, entry_measure, receiver}
use Rattle.jd_model.specs.Programs.{Program, Body, type_sort}
use Rattle.jd_model.specs.Cases.{Parameter}
use Rattle.jd_model.specs.Occurrences.{AllApart}
use Rattle.jd_model.specs.Tables.{CaseStandsFor, SortsOf, constants_of_parameters}
use Rattle.jd_jml_meaning.specs.JmlCases.{JmlCase, JmlProgram, case_of, specified}
use Rattle.jd_jml_meaning.specs.Laws.{HasOwnConstants}
use Rattle.jd_case_rows.specs.Rows.{row_of}
use Rattle.jd_case_rows.specs.Speaking.{ContractSpeaks}

abbrev pub Listed : List ℕ → ℕ → Type 0
Listed [] f = ⊥
Listed (g ∷ gs) f = (g ≡ f) ⊎ Listed gs f

-- the lists have the fields of each class's objects
abbrev pub AreFieldLists : Program → (ℕ → List ℕ) → Type 0
AreFieldLists p fields = (c f : ℕ) → (p.has_field c f ≡ true) ↔ Listed (fields c) f

-- a parameter's constant has the sort of its type
abbrev pub AreTyped : List Parameter → Type 0
AreTyped [] = Unit {0}
AreTyped (x ∷ xs) = (x.constant.sort ≡ type_sort x.declared.type) × AreTyped xs

-- a body's parameters fit those of the contract, and have constants of their own
pub record FitsBody (c : JmlCase) (b : Body) : Type 0 where
  pub typed : AreTyped c.contract.parameters
  pub sorts : SortsOf b.parameters c.contract.parameters
  pub apart : AllApart (entry_measure ∷ entry_heap ∷ receiver ∷ constants_of_parameters b.parameters)

abbrev pub RowsStand : Type 0
RowsStand = (j : JmlProgram) (fields : ℕ → List ℕ) → AreFieldLists j.program fields → (c : JmlCase) (b : Body) → HasOwnConstants c.contract → ContractSpeaks c.contract → FitsBody c b → CaseStandsFor (specified j) (case_of j.program c) b (row_of j.program fields c b)
