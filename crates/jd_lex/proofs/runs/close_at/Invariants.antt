use Rattle.std.proofs.Common.{◌<◌, ◌≤◌, ◌-◌, ℕ, length}
use Rattle.jd_lex.proofs.Heads.{Closes}
use Rattle.jd_lex.proofs.runs.close_at.Given as goal

-- nothing is closed so far
abbrev pub invariant-loop-n : goal.invariant-loop-n
invariant-loop-n l = record { within : l.n ≤ length l.bytes; never : (k : ℕ) → k < l.n → Closes l.bytes k → ⊥ }

abbrev pub decreases-loop-n : goal.decreases-loop-n
decreases-loop-n l = length l.bytes - l.n
