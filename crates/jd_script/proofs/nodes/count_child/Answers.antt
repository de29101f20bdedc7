use Rattle.std.proofs.Common.{map, sym}
use Rattle.jd_sequent.specs.Steps.{node_view}
use Rattle.jd_script.proofs.Children.{count_last, count_none}
use Rattle.std.proofs.lemmas.Result.{on_ok_weaker}
use Rattle.jd_script.proofs.nodes.count_child.Goals as goal

pub returns-in-None : goal.returns-in-None
returns-in-None c = count_none c.args.open_steps.now (map node_view c.args.nodes.now.items) (sym c.in-None.ensures.value)

pub returns-in-Some : goal.returns-in-Some
returns-in-Some c = on_ok_weaker c.add_child.result (λ e. count_last c.args.open_steps.now c.in-Some.at.now (map node_view c.args.nodes.now.items) (map node_view c.add_child.new.nodes.items) (sym c.in-Some.ensures.value) e) c.add_child.ensures
