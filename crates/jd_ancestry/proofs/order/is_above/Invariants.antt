use Rattle.std.proofs.Common.{◌↔◌, ◌<◌, length, get_or}
use Rattle.jd_ancestry.specs.Ancestors.{Above}
use Rattle.jd_ancestry.proofs.order.is_above.Given as goal

abbrev pub invariant-loop-node : goal.invariant-loop-node
invariant-loop-node l = record {
  inside : l.node < length l.parents;
  same : Above l.parents l.a l.node ↔ Above l.parents l.a l.b;
}

abbrev pub decreases-loop-node : goal.decreases-loop-node
decreases-loop-node l = get_or l.depths l.node 0
