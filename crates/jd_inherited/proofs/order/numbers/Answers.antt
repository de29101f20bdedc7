use Rattle.std.proofs.Common.{◌≡◌, length, arith}
use Rattle.jd_inherited.proofs.Orders.{Waits, below_read, last_waits, none_waits, rest_waits}
use Rattle.jd_inherited.proofs.order.numbers.Goals as goal

pub loop-number-init : goal.loop-number-init
loop-number-init c =
    let count : c.in_ok-numbers.numbers.len ≡ length c.args.parents.now = c.in_ok-numbers.ensures.len in
    let wait : Waits (length c.args.parents.now) c.wait_for.new.waiting.items =
    c.in_ok-wait_for.ensures (length c.args.parents.now)
    (below_read (length c.args.parents.now) (length c.args.parents.now) c.in_ok-below.below.firsts.items c.index.result.now c.in_ok-below.ensures.firsts (omega (arith, c.in_ok-below.ensures.first_count)) c.index.ensures)
    (none_waits (length c.args.parents.now) c.new-waiting.result.items c.new-waiting.ensures.items) in
    (count, wait)

pub index_mut-requires : goal.index_mut-requires
index_mut-requires c =
    let node = last_waits (length c.args.parents.now) c.in-Some.node c.loop-number.waiting.items c.pop.new.self.items c.in-Some.ensures.items c.loop-number.invariant.1 in
    omega (arith, node, c.loop-number.invariant.0)

pub index-requires-in-loop-number : goal.index-requires-in-loop-number
index-requires-in-loop-number c =
    let node = last_waits (length c.args.parents.now) c.in-Some.node c.loop-number.waiting.items c.pop.new.self.items c.in-Some.ensures.items c.loop-number.invariant.1 in
    omega (arith, node, c.in_ok-below.ensures.next_count)

pub index-requires-in-loop-number-2 : goal.index-requires-in-loop-number-2
index-requires-in-loop-number-2 c =
    let node = last_waits (length c.args.parents.now) c.in-Some.node c.loop-number.waiting.items c.pop.new.self.items c.in-Some.ensures.items c.loop-number.invariant.1 in
    omega (arith, node, c.in_ok-below.ensures.first_count)

pub loop-number-preserved : goal.loop-number-preserved
loop-number-preserved c =
    let node = last_waits (length c.args.parents.now) c.in-Some.node c.loop-number.waiting.items c.pop.new.self.items c.in-Some.ensures.items c.loop-number.invariant.1 in
    let rest = rest_waits (length c.args.parents.now) c.in-Some.node c.loop-number.waiting.items c.pop.new.self.items c.in-Some.ensures.items c.loop-number.invariant.1 in
    let next = below_read (length c.args.parents.now) c.in-Some.node c.in_ok-below.below.nexts.items c.index-in-loop-number.result.now c.in_ok-below.ensures.nexts (omega (arith, node, c.in_ok-below.ensures.next_count)) c.index-in-loop-number.ensures in
    let first = below_read (length c.args.parents.now) c.in-Some.node c.in_ok-below.below.firsts.items c.index-in-loop-number-2.result.now c.in_ok-below.ensures.firsts (omega (arith, node, c.in_ok-below.ensures.first_count)) c.index-in-loop-number-2.ensures in
    (c.loop-number.invariant.0, c.in_ok-wait_for-3.ensures (length c.args.parents.now) first (c.in_ok-wait_for-2.ensures (length c.args.parents.now) next rest))
