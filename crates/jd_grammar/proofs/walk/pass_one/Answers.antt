use Rattle.std.proofs.Common.{refl, arith}
use Rattle.jd_grammar.proofs.Walking.{leaf_left, leaf_walked, left_of, node_walked}
use Rattle.jd_grammar.proofs.Walks.{rest_is}
use Rattle.jd_grammar.proofs.walk.pass_one.Goals as goal

pub overflow_sub-at : goal.overflow_sub-at
overflow_sub-at g c =
    let i = (leaf_left c.args.order.now c.args.place.left c.args.place.at c.requires.some c.if-entry-eq0.true (left_of _ _ c.args.order.now _ c.args.place.left c.args.place.at _ c.requires.walked)).0 in
    omega (arith, i)

pub returns-then-entry-eq0 : goal.returns-then-entry-eq0
returns-then-entry-eq0 g c =
    let some = c.requires.some in
    (omega (arith, some), leaf_walked _ _ c.args.order.now _ c.args.place.left c.args.place.at _ c.requires.some c.if-entry-eq0.true c.requires.walked)

pub returns : goal.returns
returns g c =
    let some = c.requires.some in
    (omega (arith, some), node_walked (g.N.Nodes.count c.args.nodes.now) (g.N.Nodes.stands c.args.nodes.now) c.args.order.now c.args.tokens.now _ c.args.place.left c.args.place.at _ _ _ c.requires.some c.if-entry-eq0.false refl (rest_is c.args.tokens.now c.args.place.at) c.requires.walked c.in_ok-reduce.ensures)
