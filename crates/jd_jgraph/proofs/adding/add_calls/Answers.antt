use Rattle.std.proofs.Common.{◌∙◌}
use Rattle.jd_jcalls.specs.Called.{called_view}
use Rattle.jd_jgraph.specs.Callees.{lookup}
use Rattle.jd_jgraph.proofs.Joined.{one_more_call}
use Rattle.jd_reach.specs.Graphs.{edge}
use Rattle.jd_jgraph.proofs.adding.add_calls.Goals as goal

pub loop-call-preserved : goal.loop-call-preserved
loop-call-preserved c =
    record {
      count = c.add_call.ensures.count ∙ c.loop-call.invariant.count;
      edges = one_more_call called_view (lookup c.args.callees.now) c.args.class c.args.calls.now c.loop-call.call-index _ c.loop-call-test.true (edge c.args.graph.now) (edge c.loop-call.graph)
          (edge c.add_call.new.graph) c.args.from c.loop-call.invariant.edges c.add_call.ensures.edges;
    }
