-- A replay of a program's obligation.
use Rattle.std.proofs.Common.{◌≡◌, ℕ, List, subst}
use Rattle.jd_model.specs.Sequents.{PlainSequent}
use Rattle.jd_sequent.specs.Trees.{PlainStep, ProofTree}
use Rattle.jd_sequent.specs.Obligations.{PlainTask}
use Rattle.jd_sequent.specs.Rules.{LeadsWithinLimits}
use Rattle.jd_replay.specs.Verdicts.{IsVerdict}
use Rattle.jd_replay.specs.declared.verdict.Verdict.{Verdict}
use Rattle.jd_answer.specs.Answers.{leads_of}

-- the verdict on a task is that on the same task
pub verdict_of_task : (instance : PlainTask → PlainSequent → PlainStep → List PlainSequent → Type 0) (cause : PlainTask → PlainSequent → PlainStep → ℕ → Type 0) (q t : PlainTask) (s : PlainSequent) (tree : ProofTree) (verdict : Verdict) → t ≡ q → IsVerdict (LeadsWithinLimits (instance t)) (cause t) tree s verdict → IsVerdict (leads_of instance q) (cause q) tree s verdict
verdict_of_task instance cause q t s tree verdict is given = subst (λ u. IsVerdict (LeadsWithinLimits (instance u)) (cause u) tree s verdict) is given
