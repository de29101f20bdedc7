-- A refusal is the first bad step's cause.
use Rattle.std.proofs.Common.{◌≡◌, ℕ, ◌+◌, List, ◌∷◌, IfOk, Result, Ok, Err, Some, sym, subst}
use Rattle.jd_base.specs.declared.memory.NoMemory.{NoMemory}
use Rattle.jd_model.specs.Sequents.{PlainSequent}
use Rattle.jd_sequent.specs.Trees.{PlainStep, PlainNode, ProofTree}
use Rattle.jd_sequent.specs.Rules.{IsCaused}
use Rattle.jd_sequent.specs.declared.bad.Bad.{Bad as Refusal}
use Rattle.jd_replay.specs.declared.verdict.Cause.TheVariants.{Rule}
use Rattle.jd_replay.specs.declared.verdict.Verdict.{Verdict}
use Rattle.jd_replay.specs.declared.verdict.Verdict.TheVariants.{Closed, Open, Bad}
use Rattle.jd_replay.specs.FirstBad.{FirstBad}
use Rattle.jd_replay.specs.Verdicts.{IsRefusal, IsVerdict}
use Rattle.jd_replay.proofs.Going.{Going, going_broken}

pub refused_turn : (leads : PlainSequent → PlainStep → List PlainSequent → Type 0) (causes : PlainSequent → PlainStep → ℕ → Type 0) (accepts : PlainSequent → Type 0) (tree : ProofTree) (goal : PlainSequent) (n : PlainNode) (ns : List PlainNode) (p : PlainStep) (s : PlainSequent) (stack found : List PlainSequent) (steps : ℕ) (bad : Refusal) (r : Result Verdict NoMemory) → n.step ≡ Some p → IsCaused (causes s p) bad → IfOk r (IsRefusal bad (steps + 1)) → Going leads causes accepts tree goal (n ∷ ns) (s ∷ stack) found steps → IfOk r (IsVerdict leads causes tree goal)
refused_turn leads causes accepts tree goal n ns p s stack found steps bad (Ok (Closed all)) some caused is g = absurd is
refused_turn leads causes accepts tree goal n ns p s stack found steps bad (Ok (Open goals)) some caused is g = absurd is
refused_turn leads causes accepts tree goal n ns p s stack found steps bad (Ok (Bad node cause)) some caused is g =
    subst (λ m. FirstBad leads causes tree goal m cause) (sym is.1) (subst (FirstBad leads causes tree goal (steps + 1)) (sym is.2) (going_broken leads causes accepts tree goal n ns p s stack found steps (Rule bad) some (is.0, caused) g))
refused_turn leads causes accepts tree goal n ns p s stack found steps bad (Err e) some caused is g = tt
