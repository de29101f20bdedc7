-- That a case has more than a sequent may have.
use Rattle.std.specs.Prelude.{◌≡◌, ◌⊎◌, ℕ, List, [], ◌∷◌, Some}
use Rattle.jd_model.specs.Programs.{Body, Program}
use Rattle.jd_case_clauses.specs.Whole.{IsTooLarge}
use Rattle.jd_case_rows.specs.Rows.{spelled_for}
use Rattle.jd_jml_formulas.specs.declared.whole.Unmade.{Unmade}
use Rattle.jd_jml_formulas.specs.declared.whole.Unmade.TheVariants as causes
use Rattle.jd_jml_meaning.specs.ContractFormulas.{contract_of}
use Rattle.jd_jml_meaning.specs.JmlCases.{JmlCase}
use Rattle.jd_jml_meaning.specs.JmlContracts.{JmlContract}

module _ (limit : ℕ) (p : Program) where
  -- of contracts that this body meets
  abbrev pub OneContractIsLarge : Body → List JmlContract → Type 0
  OneContractIsLarge b [] = ⊥
  OneContractIsLarge b (x ∷ xs) = IsTooLarge limit (contract_of p (spelled_for b x)) ⊎ OneContractIsLarge b xs

  abbrev pub TellsOfContracts : Body → List JmlContract → Unmade → Type 0
  TellsOfContracts b xs causes.TooLarge = OneContractIsLarge b xs
  TellsOfContracts b xs causes.NoMemory = Unit {0}

  -- of cases, each in the names of the body that it runs
  abbrev pub CaseIsLarge : JmlCase → Type 0
  CaseIsLarge c = (b : Body) × (p.body c.body ≡ Some b) × IsTooLarge limit (contract_of p (spelled_for b c.contract))

  abbrev pub OneCaseIsLarge : List JmlCase → Type 0
  OneCaseIsLarge [] = ⊥
  OneCaseIsLarge (c ∷ cs) = CaseIsLarge c ⊎ OneCaseIsLarge cs

  abbrev pub TellsOfCases : List JmlCase → Unmade → Type 0
  TellsOfCases cs causes.TooLarge = OneCaseIsLarge cs
  TellsOfCases cs causes.NoMemory = Unit {0}
