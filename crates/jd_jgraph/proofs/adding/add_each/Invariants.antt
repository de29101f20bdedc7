use Rattle.std.proofs.Common.{◌≡◌, ℕ, take}
use Rattle.jd_reach.specs.Graphs.{edge, node_count}
use Rattle.jd_jgraph.specs.Edges.{with_edges}
use Rattle.jd_jgraph.proofs.adding.add_each.Given as goal

-- the edges to the nodes so far are there
abbrev pub invariant-loop-node : goal.invariant-loop-node
invariant-loop-node l =
    record {
      count : node_count l.graph ≡ node_count l.fn.graph;
      edges : (a b : ℕ) → edge l.graph a b ≡ with_edges (edge l.fn.graph) l.from (take l.node-index l.to) a b;
    }
