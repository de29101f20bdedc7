use Rattle.jd_nearest.specs.Rows.{AreFilled}
use Rattle.jd_nearest.proofs.rows.nearest_values.Given as goal

abbrev pub invariant-loop-node : goal.invariant-loop-node
invariant-loop-node l = AreFilled l.parents l.width l.fn.own.items l.values.items l.node-items l.node-index
