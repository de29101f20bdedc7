use Rattle.std.proofs.Common.{refl, sym, ap, subst}
use Rattle.jd_syntax.specs.Sxs.{sx_view}
use Rattle.jd_bracketed.specs.Tokens.{tokens_of}
use Rattle.jd_bracketed.specs.TokenViews.{token_view}
use Rattle.jd_bracketed.specs.Readings.{Before}
use Rattle.jd_bracketed.specs.ReadingViews.{reading_view}
use Rattle.jd_bracketed.proofs.Turns.{Reached, reached_none, turn, syntax_here, deep_here, whole_here, early_here, not_whole}
use Rattle.jd_bracketed.proofs.whole.read_within.Goals as goal

pub loop-token-init : goal.loop-token-init
loop-token-init c =
    let all = tokens_of c.args.bytes.now in
    subst (λ left. Reached c.args.limit all left Before) (sym c.new-tokens.ensures) (reached_none c.args.limit all)

pub loop-token-preserved : goal.loop-token-preserved
loop-token-preserved c =
    turn c.args.limit (tokens_of c.args.bytes.now) c.loop-token.tokens c.next.new.self (token_view c.in-Some.token) (reading_view c.loop-token.reading) (reading_view c.in-Ok.next)
    c.loop-token.invariant c.in-Some.ensures c.in-Ok.ensures

pub returns-in-Err-Syntax : goal.returns-in-Err-Syntax
returns-in-Err-Syntax c = (
  refl,
  syntax_here c.args.limit (tokens_of c.args.bytes.now) c.loop-token.tokens c.next.new.self (token_view c.in-Some.token) (reading_view c.loop-token.reading)
      c.loop-token.invariant c.in-Some.ensures (rw c.in-Err-Syntax.field-0-is at c.in-Err-Syntax.ensures),
)

pub returns-in-Err-TooDeep : goal.returns-in-Err-TooDeep
returns-in-Err-TooDeep c = (
  refl,
  deep_here c.args.limit (tokens_of c.args.bytes.now) c.loop-token.tokens c.next.new.self (token_view c.in-Some.token) (reading_view c.loop-token.reading)
      c.loop-token.invariant c.in-Some.ensures (rw c.in-Err-TooDeep.field-0-is at c.in-Err-TooDeep.ensures),
)

pub returns-in-Whole : goal.returns-in-Whole
returns-in-Whole c =
    whole_here c.args.limit (tokens_of c.args.bytes.now) c.loop-token.tokens (reading_view c.loop-token.reading) (sx_view c.in-Whole.x)
    c.loop-token.invariant c.in_default.ensures.0 (ap reading_view c.in-Whole.is)

pub returns : goal.returns
returns c =
    early_here c.args.limit (tokens_of c.args.bytes.now) c.loop-token.tokens (reading_view c.loop-token.reading)
    c.loop-token.invariant c.in_default.ensures.0 (not_whole c.loop-token.reading c.in_default-reading.not-Whole)
