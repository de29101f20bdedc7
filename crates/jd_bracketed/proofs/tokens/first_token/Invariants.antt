use Rattle.std.proofs.Common.{◌≡◌, ◌≤◌, ◌+◌, length}
use Rattle.jd_bracketed.specs.Tokens.{tokens_from}
use Rattle.jd_bracketed.proofs.tokens.first_token.Given as goal

-- what is passed has no token
abbrev pub invariant-loop-rest : goal.invariant-loop-rest
invariant-loop-rest l =
    (tokens_from l.fn.in_comment l.fn.at l.fn.rest ≡ tokens_from l.in_comment l.at l.rest) × (l.at + length l.rest ≤ 4294967295)

abbrev pub decreases-loop-rest : goal.decreases-loop-rest
decreases-loop-rest l = length l.rest
