use Rattle.std.proofs.Common.{length}
use Rattle.jd_bracketed.specs.Tokens.{tokens_of}
use Rattle.jd_bracketed.specs.ReadingViews.{reading_view}
use Rattle.jd_bracketed.proofs.Turns.{Reached}
use Rattle.jd_bracketed.proofs.whole.read_within.Given as goal

abbrev pub invariant-loop-token : goal.invariant-loop-token
invariant-loop-token l = Reached l.limit (tokens_of l.bytes) l.tokens (reading_view l.reading)

abbrev pub decreases-loop-token : goal.decreases-loop-token
decreases-loop-token l = length l.tokens
