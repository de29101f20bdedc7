use Rattle.std.proofs.Common.{length}
use Rattle.jd_inherited.proofs.Orders.{AreListed}
use Rattle.jd_inherited.proofs.order.lists_below.Given as goal

abbrev pub invariant-loop-node : goal.invariant-loop-node
invariant-loop-node l = AreListed (length l.parents) l.node l.firsts.items l.nexts.items
