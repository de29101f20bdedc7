use Rattle.std.proofs.Common.{map, arith}
use Rattle.std.proofs.lemmas.List.{length-map}
use Rattle.jd_sequent.specs.Steps.{node_view}
use Rattle.jd_script.proofs.Children.{none_more, one_more}
use Rattle.jd_script.proofs.nodes.add_child.Goals as goal

pub returns-then-len-at : goal.returns-then-len-at
returns-then-len-at c = none_more (map node_view c.args.nodes.now.items) c.args.at (let long = length-map c.args.nodes.now.items node_view in omega (arith, long, c.args.nodes.now.ok.0))

pub returns-in-Some : goal.returns-in-Some
returns-in-Some c = one_more c.args.nodes.now.items c.args.at c.index_mut-node.result.now _ (omega (arith, c.args.nodes.now.ok.0)) c.index_mut-node.ensures.value c.in-Some.ensures.1
