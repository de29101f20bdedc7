-- A closed verdict is right.
use Rattle.std.proofs.Common.{ℕ, List, []}
use Rattle.jd_model.specs.Sequents.{PlainSequent}
use Rattle.jd_sequent.specs.Trees.{PlainStep, ProofTree}
use Rattle.jd_sequent.specs.Obligations.{PlainTask}
use Rattle.jd_sequent.specs.SoundDerivations.{DerivationsAreSound}
use Rattle.jd_replay.specs.declared.verdict.Verdict.{Verdict}
use Rattle.jd_replay.specs.declared.verdict.Verdict.TheVariants.{Closed, Open, Bad}
use Rattle.jd_replay.specs.Verdicts.{ClosedIsValid, IsVerdict}

pub closed_is_valid : (t : PlainTask) (accepts : PlainSequent → Type 0) (leads : PlainSequent → PlainStep → List PlainSequent → Type 0) (causes : PlainSequent → PlainStep → ℕ → Type 0) → DerivationsAreSound t accepts leads → (tree : ProofTree) (s : PlainSequent) → accepts s → (v : Verdict) → IsVerdict leads causes tree s v → ClosedIsValid t s v
closed_is_valid t accepts leads causes sound tree s ok (Closed steps) is = sound tree s [] ok is.0
closed_is_valid t accepts leads causes sound tree s ok (Open goals) is = tt
closed_is_valid t accepts leads causes sound tree s ok (Bad node cause) is = tt
