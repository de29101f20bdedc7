use Rattle.std.proofs.Common.{◌≡◌, ◌∙◌, ap, length, map, refl, arith}
use Rattle.std.specs.List.{range_with_len}
use Rattle.jd_inherited.proofs.Orders.{in_some_order, one_more_index}
use Rattle.jd_inherited.proofs.order.in_order.Goals as goal

pub loop-i-preserved : goal.loop-i-preserved
loop-i-preserved c =
    ap (map (λ p. p.1)) c.in_ok-push.ensures.items ∙ one_more_index c.loop-i.order.items c.loop-i.i _ refl c.loop-i.invariant

pub returns : goal.returns
returns c =
    let all : c.loop-i.i ≡ length c.args.items.now = omega arith in
    in_some_order c.loop-i.order.items c.sort.new.self.items (length c.args.items.now) (c.loop-i.invariant ∙ ap (range_with_len 0) all) c.in_ok-sort.ensures.permutation
