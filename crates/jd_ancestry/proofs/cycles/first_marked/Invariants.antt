use Rattle.std.proofs.Common.{◌≡◌, ℕ, ◌<◌, get_or}
use Rattle.jd_ancestry.proofs.cycles.first_marked.Given as goal

abbrev pub invariant-loop-node : goal.invariant-loop-node
invariant-loop-node l = (j : ℕ) → j < l.node → get_or l.marks j 0 ≡ 0
