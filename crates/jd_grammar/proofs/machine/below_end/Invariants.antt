use Rattle.std.proofs.Common.{◌≡◌, ◌+◌, ◌≤◌, length, drop}
use Rattle.jd_grammar.proofs.machine.below_end.Given as goal

-- from there on they are the same
abbrev pub invariant-loop-left : goal.invariant-loop-left
invariant-loop-left l = (drop (l.below + l.left) l.stack ≡ drop l.left l.end) × (l.left ≤ length l.end) × (l.below + length l.end ≡ length l.stack)

abbrev pub decreases-loop-left : goal.decreases-loop-left
decreases-loop-left l = l.left
