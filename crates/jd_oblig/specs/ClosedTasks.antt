-- That every case is kept where sound steps close its obligation.
use Rattle.std.specs.Prelude.{◌≡◌, ℕ, Some, []}
use Rattle.jd_model.specs.Sequents.{PlainSequent}
use Rattle.jd_model.specs.Cases.{Case, SpecifiedProgram}
use Rattle.jd_model.specs.ContractForms.{PlainContracts}
use Rattle.jd_model.specs.KeptCases.{Kept}
use Rattle.jd_model.specs.ResolvedBodies.{AllResolved}
use Rattle.jd_model.specs.Tables.{TablesStandFor}
use Rattle.jd_sequent.specs.TaskMeaning.{StepIsSoundIn}
use Rattle.jd_oblig.specs.KeptByObligations.{IsMadeOfRow, IsReachability}

-- where tables stand for a program, the obligation of each case is made of its row, and a derivation leaves no goal of it
abbrev pub EveryClosedCaseIsKept : Type 0
EveryClosedCaseIsKept =
    (p : SpecifiedProgram) → AllResolved p.setting.program → IsReachability p → (t : PlainContracts) → TablesStandFor t p → (obligation : ℕ → PlainSequent)
    → ((κ : ℕ) (c : Case) → p.case κ ≡ Some c → IsMadeOfRow t p κ c (obligation κ))
    → ((κ : ℕ) (c : Case) → p.case κ ≡ Some c → StepIsSoundIn p c (obligation κ) [])
    → (κ : ℕ) (c : Case) → p.case κ ≡ Some c → Kept p c
