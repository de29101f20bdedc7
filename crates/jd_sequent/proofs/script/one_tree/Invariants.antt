use Rattle.std.proofs.Common.{◌≡◌, ◌+◌, ◌*◌, ◌^◌, ◌≤◌, map, drop}
use Rattle.jd_sequent.specs.Trees.{are_trees}
use Rattle.jd_sequent.specs.Steps.{node_view}
use Rattle.jd_sequent.proofs.script.one_tree.Given as goal

abbrev pub invariant-loop-node : goal.invariant-loop-node
invariant-loop-node l =
    (are_trees l.pending (drop l.node-index (map node_view l.node-items)) ≡ are_trees 1 (map node_view l.node-items))
    × (l.pending ≤ 1 + 2 ^ 32 * l.node-index)
