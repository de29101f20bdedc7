use Rattle.std.proofs.Common.{rules}
use Rattle.std.proofs.lemmas.List.Sorted.{IsNonDecreasingBy-from_sort_by_key}
use Rattle.jd_nearest.proofs.Sorting.{sorted_by_depth}
use Rattle.jd_nearest.proofs.order.by_depth.Goals as goal

pub returns : goal.returns
returns c =
    sorted_by_depth c.args.depths.now c.loop-node.order.items c.sort_unstable_by_key.new.self.items c.loop-node.node c.loop-node.invariant c.loop-node-test.false c.loop-node.auto.node-end
    c.sort_unstable_by_key.ensures.permutation (IsNonDecreasingBy-from_sort_by_key (λ p. p.0) _ c.sort_unstable_by_key.ensures.sorted (λ a r q k. search rules))
