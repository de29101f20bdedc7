use Rattle.std.proofs.Common.{◌≡◌, length}
use Rattle.jd_bracketed.specs.Tokens.{tokens_of}
use Rattle.jd_scripts.specs.Machine.{FileNext, IsReached}
use Rattle.jd_scripts.specs.Results.{answer}
use Rattle.jd_script.specs.ProofViews.{proofs_view, AreHashed}
use Rattle.jd_script.specs.TurnViews.{limits_view}
use Rattle.jd_script.specs.StageViews.{state_view}
use Rattle.jd_script.proofs.whole.read_within.Given as goal

-- what is left makes of the state what the whole text is, and what stands before led to it
abbrev pub invariant-loop-token : goal.invariant-loop-token
invariant-loop-token l =
    (answer (limits_view l.limits) l.tokens (state_view (proofs_view l.proofs) l.proof l.stage) ≡ answer (limits_view l.limits) (tokens_of l.bytes) FileNext)
    × AreHashed l.proofs
    × IsReached (limits_view l.limits) (state_view (proofs_view l.proofs) l.proof l.stage)

abbrev pub decreases-loop-token : goal.decreases-loop-token
decreases-loop-token l = length l.tokens
