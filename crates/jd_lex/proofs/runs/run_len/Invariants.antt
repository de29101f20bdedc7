use Rattle.std.proofs.Common.{◌≡◌, ℕ, ◌<◌, get_or, true}
use Rattle.jd_lex.specs.Lens.{test_of}
use Rattle.jd_lex.proofs.runs.run_len.Given as goal

-- each byte so far is of the kind
abbrev pub invariant-loop-n : goal.invariant-loop-n
invariant-loop-n l = (k : ℕ) → k < l.n → test_of l.kind (get_or l.bytes k 0) ≡ true
