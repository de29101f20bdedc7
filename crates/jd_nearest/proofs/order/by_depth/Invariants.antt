use Rattle.jd_nearest.proofs.Sorting.{AreListed}
use Rattle.jd_nearest.proofs.order.by_depth.Given as goal

abbrev pub invariant-loop-node : goal.invariant-loop-node
invariant-loop-node l = AreListed l.depths l.order.items l.node
