use Rattle.jd_grammar.specs.Counted.{shown}
use Rattle.jd_grammar.proofs.Walking.{top_stands}
use Rattle.jd_grammar.proofs.Walks.{leaves_are}
use Rattle.jd_grammar.proofs.fold.value_of.Goals as goal

pub evaluate-requires-clause-leaves : goal.evaluate-requires-clause-leaves
evaluate-requires-clause-leaves g c = leaves_are c.requires.read.tree (g.N.Nodes.count c.args.nodes.now) c.args.order.now _ c.requires.read.read

pub returns-in-Ok : goal.returns-in-Ok
returns-in-Ok g c = λ tree is.
    top_stands (g.N.Nodes.count c.args.nodes.now) (g.N.Nodes.stands c.args.nodes.now) g.V.Blank.nothing tree c.args.order.now c.args.tokens.now _ (shown g.V.Blank.nothing c.evaluate.new.piles) c.top.result is c.in-Ok.ensures c.top.ensures
