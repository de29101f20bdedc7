use Rattle.std.proofs.Common.{sym, ap, subst, ◌∙◌}
use Rattle.jd_bracketed.specs.Tokens.{tokens_of}
use Rattle.jd_bracketed.specs.TokenViews.{token_view}
use Rattle.jd_scripts.specs.Machine.{FileNext}
use Rattle.jd_scripts.specs.Results.{answer}
use Rattle.jd_scripts.proofs.Reaching.{first_reached, next_reached, reached_whole}
use Rattle.jd_script.specs.ProofViews.{proofs_view}
use Rattle.jd_script.specs.TurnViews.{limits_view, stop_view}
use Rattle.jd_script.specs.StageViews.{state_view, turn_view}
use Rattle.jd_script.specs.Answers.{AnswersAs, RefusesAs}
use Rattle.jd_script.proofs.Turns.{goes, stops, ends}
use Rattle.jd_script.proofs.whole.read_within.Goals as goal

pub loop-token-init : goal.loop-token-init
loop-token-init c =
    let l = limits_view c.args.limits in
    (ap (λ ts. answer l ts FileNext) c.new-tokens.ensures, c.new-proofs.ensures.hashed, first_reached l)

pub stage_step-requires-clause-whole : goal.stage_step-requires-clause-whole
stage_step-requires-clause-whole c =
    reached_whole (limits_view c.args.limits) (state_view (proofs_view c.loop-token.proofs) c.loop-token.proof c.loop-token.stage) c.loop-token.invariant.2

pub loop-token-preserved : goal.loop-token-preserved
loop-token-preserved c =
    let l = limits_view c.args.limits in
    let st = state_view (proofs_view c.loop-token.proofs) c.loop-token.proof c.loop-token.stage in
    let next = state_view (proofs_view c.stage_step.new.proofs) c.stage_step.new.proof c.in-Ok-Goes.next in
    let step = sym c.in-Ok-Goes.ensures.turn ∙ ap (turn_view (proofs_view c.stage_step.new.proofs) c.stage_step.new.proof) c.in-Ok-Goes.field-0-is in (
      goes l c.loop-token.tokens c.next.new.self (token_view c.in-Some.token) st next (answer l (tokens_of c.args.bytes.now) FileNext) c.in-Some.ensures step c.loop-token.invariant.0,
      c.in-Ok-Goes.ensures.hashed,
      next_reached l (token_view c.in-Some.token).0 st next c.loop-token.invariant.2 step,
    )

pub returns-in-Ok-Stops : goal.returns-in-Ok-Stops
returns-in-Ok-Stops c =
    let l = limits_view c.args.limits in
    subst (RefusesAs c.refusal.result)
    (stops l c.loop-token.tokens c.next.new.self (token_view c.in-Some.token) (state_view (proofs_view c.loop-token.proofs) c.loop-token.proof c.loop-token.stage)
    (stop_view c.in-Ok-Stops.stop) (answer l (tokens_of c.args.bytes.now) FileNext) c.in-Some.ensures
    (sym c.in-Ok-Stops.ensures.turn ∙ ap (turn_view (proofs_view c.stage_step.new.proofs) c.stage_step.new.proof) c.in-Ok-Stops.field-0-is) c.loop-token.invariant.0)
    c.refusal.ensures

pub returns : goal.returns
returns c =
    let l = limits_view c.args.limits in
    subst (AnswersAs c.finished.result)
    (ends l c.loop-token.tokens (state_view (proofs_view c.loop-token.proofs) c.loop-token.proof c.loop-token.stage) (answer l (tokens_of c.args.bytes.now) FileNext) c.in_default.ensures.0 c.loop-token.invariant.0)
    c.finished.ensures
