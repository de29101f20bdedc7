use Rattle.std.proofs.Common.{◌≡◌, ℕ, map}
use Rattle.std.specs.Bool.{Decides}
use Rattle.jd_reach.specs.Graphs.{edge, node_count}
use Rattle.jd_jlists.specs.Views.{member_of_view}
use Rattle.jd_jseen.specs.Own.{routines_before}
use Rattle.jd_jgraph.specs.Callees.{lookup}
use Rattle.jd_jgraph.specs.Edges.{IsCalledFrom}
use Rattle.jd_jgraph.proofs.adding.graph_of_calls.Given as goal

-- the edges of the members so far are there, and the next routine has this number
abbrev pub invariant-loop-member : goal.invariant-loop-member
invariant-loop-member l =
    let members = map member_of_view l.members in
    record {
      count : node_count l.graph ≡ l.count;
      edges : (a b : ℕ) → Decides (edge l.graph a b) (IsCalledFrom (lookup l.callees) members l.member-index a b);
      next : l.routine ≡ routines_before members l.member-index;
    }
