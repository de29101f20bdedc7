-- What the status of a report tells.
use Rattle.std.proofs.Common.{◌≡◌, ◌⊎◌, inl, inr, ℕ, List, [], length, Option, Some, ap, refl, subst, arith}
use Rattle.jd_model.specs.Sequents.{PlainSequent}
use Rattle.jd_sequent.specs.Trees.{PlainStep, ProofTree}
use Rattle.jd_sequent.specs.Derives.{Derives}
use Rattle.jd_replay.proofs.OneFirstBad.{bad_derives_nothing}
use Rattle.jd_answer.specs.Reports.{IsReport, missing, closed, opened, broken}
use Rattle.jd_answer.specs.declared.status.Status.{Status}
use Rattle.jd_answer.specs.declared.status.Status.TheVariants.{Done, NotAccepted}
use Rattle.jd_answer.proofs.Derivations.{OneWay, HasNoCause, one_derivation}

-- a report that all is accepted
pub report_done : (leads : PlainSequent → PlainStep → List PlainSequent → Type 0) (causes : PlainSequent → PlainStep → ℕ → Type 0) (said : List PlainSequent → List ℕ) (name : List ℕ) (goal : PlainSequent) (s : Option ProofTree) (status : Status) (text : List ℕ) → IsReport leads causes said name goal s status text → status ≡ Done → (tree : ProofTree) × (s ≡ Some tree) × Derives leads tree goal []
report_done leads causes said name goal s status text (missing none) is = absurd cc
report_done leads causes said name goal s status text (closed tree one derived) is = (tree, one, derived)
report_done leads causes said name goal s status text (opened tree goals one derived some) is = absurd cc
report_done leads causes said name goal s status text (broken tree node cause one first) is = absurd cc

-- a report that something is not accepted
pub report_not_accepted : (leads : PlainSequent → PlainStep → List PlainSequent → Type 0) (causes : PlainSequent → PlainStep → ℕ → Type 0) (said : List PlainSequent → List ℕ) → OneWay leads → HasNoCause leads causes → (name : List ℕ) (goal : PlainSequent) (s : Option ProofTree) (status : Status) (text : List ℕ) → IsReport leads causes said name goal s status text → status ≡ NotAccepted → (tree : ProofTree) → s ≡ Some tree → Derives leads tree goal [] → ⊥
report_not_accepted leads causes said way free name goal s status text (missing none) is other same derives = cc
report_not_accepted leads causes said way free name goal s status text (closed tree one derived) is other same derives = cc
report_not_accepted leads causes said way free name goal s status text (opened tree goals one derived some) is other same derives =
    let trees : other ≡ tree = cc in
    let empty = one_derivation leads way tree goal goals [] derived (subst (λ t. Derives leads t goal []) trees derives) in
    omega (arith, ap length empty)
report_not_accepted leads causes said way free name goal s status text (broken tree node cause one first) is other same derives =
    let trees : other ≡ tree = cc in
    bad_derives_nothing leads causes way free tree goal node cause [] first (subst (λ t. Derives leads t goal []) trees derives)

-- a report has one of two statuses
pub report_status : (leads : PlainSequent → PlainStep → List PlainSequent → Type 0) (causes : PlainSequent → PlainStep → ℕ → Type 0) (said : List PlainSequent → List ℕ) (name : List ℕ) (goal : PlainSequent) (s : Option ProofTree) (status : Status) (text : List ℕ) → IsReport leads causes said name goal s status text → (status ≡ Done) ⊎ (status ≡ NotAccepted)
report_status leads causes said name goal s status text (missing none) = inr refl
report_status leads causes said name goal s status text (closed tree one derived) = inl refl
report_status leads causes said name goal s status text (opened tree goals one derived some) = inr refl
report_status leads causes said name goal s status text (broken tree node cause one first) = inr refl

-- a report's status is none of a refusal or a limit
pub no_report : (leads : PlainSequent → PlainStep → List PlainSequent → Type 0) (causes : PlainSequent → PlainStep → ℕ → Type 0) (said : List PlainSequent → List ℕ) (name : List ℕ) (goal : PlainSequent) (s : Option ProofTree) (status : Status) (text : List ℕ) → IsReport leads causes said name goal s status text → (status ≡ Done → ⊥) → (status ≡ NotAccepted → ⊥) → ⊥
no_report leads causes said name goal s status text report not_done not_other =
    elim (report_status leads causes said name goal s status text report) [ inl is ↦ not_done is | inr is ↦ not_other is ]
