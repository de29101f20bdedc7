use Rattle.std.proofs.Common.{option_map}
use Rattle.jd_model.specs.Nodes.{node_part}
use Rattle.jd_schema_matching.specs.PartViews.{bindings}
use Rattle.jd_schema_trees.specs.TacletViews.{pattern}
use Rattle.jd_sequent.specs.declared.bad.Bad.TheVariants.{NoMatch}
use Rattle.jd_taclet_matching.proofs.Ending.{answered_by}
use Rattle.jd_taclet_matching.proofs.Matched.{found_anew}
use Rattle.jd_taclet_matching.proofs.finding.found_in.Goals as goal

pub returns : goal.returns
returns c =
    answered_by bindings c.match_node-matched.result c.match_node-matched.new.found NoMatch _ c.ended.result c.ended.ensures
    (found_anew (option_map pattern c.args.find.now) (node_part c.args.node) (bindings c.new-found.result) (bindings c.match_node-matched.new.found) c.match_node-matched.result c.new-found.ensures c.match_node-matched.ensures)
