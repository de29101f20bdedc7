use Rattle.std.proofs.Common.{◌≡◌, ◌+◌, drop}
use Rattle.jd_bracketed.specs.Tokens.{run_length}
use Rattle.jd_bracketed.proofs.tokens.run_len.Given as goal

-- each byte so far is of the run
abbrev pub invariant-loop-n : goal.invariant-loop-n
invariant-loop-n l = run_length l.bytes ≡ l.n + run_length (drop l.n l.bytes)
