use Rattle.std.proofs.Common.{◌+◌, ◌<◌, ◌++◌, ◌∷◌, [], length, slice_set, Some, None, ap, subst, sym, ◌∙◌, arith}
use Rattle.jd_inherited.proofs.Orders.{AreListed, one_more_listed, reads_any, parents_below}
use Rattle.jd_inherited.proofs.order.lists_below.Goals as goal

pub list_of-list-requires : goal.list_of-list-requires
list_of-list-requires c = parents_below c.args.parents.now c.loop-node.node _ c.requires.nodes c.loop-node-test.true

pub loop-node-preserved : goal.loop-node-preserved
loop-node-preserved c =
    let inside : c.list_of-list.result < length c.args.parents.now + 1 = omega arith in
    subst (AreListed (length c.args.parents.now) (c.loop-node.node + 1) (slice_set c.loop-node.firsts.items c.list_of-list.result (Some c.loop-node.node)))
    (sym (c.in_ok-push.ensures.items
    ∙ ap (λ x. c.loop-node.nexts.items ++ x ∷ []) (reads_any c.loop-node.firsts.items c.list_of-list.result c.index-first.result.now None (omega (arith, inside, c.loop-node.invariant.first_count)) c.index-first.ensures)))
    (one_more_listed (length c.args.parents.now) c.loop-node.node c.list_of-list.result c.loop-node.firsts.items c.loop-node.nexts.items c.loop-node-test.true inside c.loop-node.invariant)
