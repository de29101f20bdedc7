-- The report of a verdict is the report of its proof.
use Rattle.std.proofs.Common.{◌≡◌, ℕ, Bool, List, map, Option, Some, None, option_map, refl, sym, ap, subst, ◌∙◌}
use Rattle.std.proofs.lemmas.List.{length-map}
use Rattle.jd_model.specs.Sequents.{PlainSequent, sequent_view}
use Rattle.jd_sequent.specs.Trees.{PlainStep, ProofTree, tree_of}
use Rattle.jd_sequent.specs.Steps.{node_view}
use Rattle.jd_sequent.specs.declared.script.ScriptTree.{ScriptTree}
use Rattle.jd_replay.specs.Verdicts.{IsVerdict}
use Rattle.jd_replay.specs.declared.verdict.Verdict.{Verdict}
use Rattle.jd_replay.specs.declared.verdict.Verdict.TheVariants.{Closed, Open, Bad}
use Rattle.jd_proofs.specs.Answers.{tree_view}
use Rattle.jd_tgrammar.specs.NameTables.{NameTable}
use Rattle.jd_answer.specs.Reports.{IsReport, missing, closed, opened, broken, goals_text, said_of_verdict, verdict_status, verdict_text, missing_text}
use Rattle.jd_answer.specs.declared.status.Status.{Status}
use Rattle.jd_answer.specs.declared.status.Status.TheVariants.{NotAccepted}

pub report_of_verdict : (leads : PlainSequent → PlainStep → List PlainSequent → Type 0) (causes : PlainSequent → PlainStep → ℕ → Type 0) (said : List PlainSequent → List ℕ) (name : List ℕ) (goal : PlainSequent) (tree : ProofTree) (verdict : Verdict) → IsVerdict leads causes tree goal verdict → IsReport leads causes said name goal (Some tree) (verdict_status verdict) (verdict_text name (said_of_verdict said verdict) verdict)
report_of_verdict leads causes said name goal tree (Closed steps) is =
    rw (← is.1) (closed tree refl is.0)
report_of_verdict leads causes said name goal tree (Open goals) is =
    rw (← length-map goals.items sequent_view) (opened tree (map sequent_view goals.items) refl is.0 (rw (length-map goals.items sequent_view) is.1))
report_of_verdict leads causes said name goal tree (Bad node cause) is = broken tree node cause refl is

-- the report without a proof
pub report_without_proof : (leads : PlainSequent → PlainStep → List PlainSequent → Type 0) (causes : PlainSequent → PlainStep → ℕ → Type 0) (said : List PlainSequent → List ℕ) (goal : PlainSequent) (p : Option ScriptTree) (name called text : List ℕ) → p ≡ None → called ≡ name → text ≡ missing_text called → IsReport leads causes said name goal (option_map tree_view p) NotAccepted text
report_without_proof leads causes said goal p name called text none same is =
    subst (λ t. IsReport leads causes said name goal (option_map tree_view p) NotAccepted t) (sym (is ∙ ap missing_text same)) (missing (ap (option_map tree_view) none))

-- the report of a proof
pub report_of_proof : (leads : PlainSequent → PlainStep → List PlainSequent → Type 0) (causes : PlainSequent → PlainStep → ℕ → Type 0) (said : List PlainSequent → List ℕ) (goal : PlainSequent) (p : Option ScriptTree) (t : ScriptTree) (verdict : Verdict) (status : Status) (name called told text : List ℕ) → p ≡ Some t → called ≡ name → told ≡ said_of_verdict said verdict → IsVerdict leads causes (tree_of (map node_view t.nodes.items)) goal verdict → status ≡ verdict_status verdict → text ≡ verdict_text called told verdict → IsReport leads causes said name goal (option_map tree_view p) status text
report_of_proof leads causes said goal p t verdict status name called told text one same told_is is status_is text_is =
    rw (one, status_is, text_is, same, told_is) (report_of_verdict leads causes said name goal (tree_of (map node_view t.nodes.items)) verdict is)

-- and of one with its goals by equal names
pub report_with_goals : (leads : PlainSequent → PlainStep → List PlainSequent → Type 0) (causes : PlainSequent → PlainStep → ℕ → Type 0) (asked : Bool) (m n : NameTable) (goal : PlainSequent) (p : Option ScriptTree) (t : ScriptTree) (verdict : Verdict) (status : Status) (name called told text : List ℕ) → p ≡ Some t → called ≡ name → IsVerdict leads causes (tree_of (map node_view t.nodes.items)) goal verdict → told ≡ said_of_verdict (goals_text asked m) verdict → m ≡ n → status ≡ verdict_status verdict → text ≡ verdict_text called told verdict → IsReport leads causes (goals_text asked n) name goal (option_map tree_view p) status text
report_with_goals leads causes asked m n goal p t verdict status name called told text one same is told_is names status_is text_is =
    report_of_proof leads causes (goals_text asked n) goal p t verdict status name called told text one same (told_is ∙ ap (λ x. said_of_verdict (goals_text asked x) verdict) names) is status_is text_is
