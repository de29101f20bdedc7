use Rattle.std.proofs.Common.{◌≡◌, ℕ, map, take}
use Rattle.jd_reach.specs.Graphs.{edge, node_count}
use Rattle.jd_jcalls.specs.Called.{called_view}
use Rattle.jd_jgraph.specs.Callees.{lookup, reached_by}
use Rattle.jd_jgraph.specs.Edges.{with_edges}
use Rattle.jd_jgraph.proofs.adding.add_calls.Given as goal

-- the edges of the calls so far are there
abbrev pub invariant-loop-call : goal.invariant-loop-call
invariant-loop-call l =
    record {
      count : node_count l.graph ≡ node_count l.fn.graph;
      edges : (a b : ℕ) → edge l.graph a b ≡ with_edges (edge l.fn.graph) l.from (reached_by (lookup l.callees) l.class (map called_view (take l.call-index l.calls))) a b;
    }
