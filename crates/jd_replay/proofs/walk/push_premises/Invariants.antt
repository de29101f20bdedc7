use Rattle.std.proofs.Common.{◌≡◌, ◌++◌, reverse, vec_len}
use Rattle.jd_replay.proofs.walk.push_premises.Given as goal

abbrev pub invariant-loop-sequent : goal.invariant-loop-sequent
invariant-loop-sequent l = l.stack.items ++ reverse l.premises.items ≡ l.fn.stack.items ++ reverse l.fn.premises.items

abbrev pub decreases-loop-sequent : goal.decreases-loop-sequent
decreases-loop-sequent l = vec_len l.premises
