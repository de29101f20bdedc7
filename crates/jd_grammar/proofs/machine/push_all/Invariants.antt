use Rattle.std.proofs.Common.{◌≡◌, ◌++◌, ◌≤◌, length, drop}
use Rattle.std.specs.Prelude.{reverse}
use Rattle.jd_grammar.proofs.machine.push_all.Given as goal

abbrev pub invariant-loop-left : goal.invariant-loop-left
invariant-loop-left l = (l.stack.items ≡ l.fn.stack.items ++ reverse (drop l.left l.symbols)) × (l.left ≤ length l.symbols)

abbrev pub decreases-loop-left : goal.decreases-loop-left
decreases-loop-left l = l.left
