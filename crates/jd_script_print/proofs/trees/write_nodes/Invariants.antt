use Rattle.std.proofs.Common.{◌≡◌, [], drop, map, reverse}
use Rattle.jd_sequent.specs.Steps.{node_view}
use Rattle.jd_script_print.specs.Writing.{put_nodes}
use Rattle.jd_script_print.proofs.trees.write_nodes.Given as goal

-- what is left is written behind what is written so far
abbrev pub invariant-loop-node : goal.invariant-loop-node
invariant-loop-node l =
    put_nodes (l.out, reverse l.left.items) (map node_view (drop l.node-index l.nodes)) ≡ put_nodes (l.fn.out, []) (map node_view l.nodes)
