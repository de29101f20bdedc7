use Rattle.std.proofs.Common.{◌<◌, ◌+◌, refl, arith}
use Rattle.jd_inherited.proofs.ItemFacts.{keys_below, variants_below}
use Rattle.jd_inherited.proofs.Steps.{rank}
use Rattle.jd_inherited.proofs.Walks.{added, arrived, key_removable, key_room, removed, set_out, step_from, step_to, variant_removable, variant_room}
use Rattle.jd_inherited.proofs.walk.walk.Goals as goal

pub loop-from-init : goal.loop-from-init
loop-from-init c = set_out c.args.forest.parents.now c.args.forest.depths.now c.args.items.now c.args.to _ _ c.args.from c.args.counts.now.keys.items c.args.counts.now.variants.items c.requires.from c.requires.to c.requires.counted refl refl

pub remove-requires-clause-key_counted : goal.remove-requires-clause-key_counted
remove-requires-clause-key_counted c =
    key_removable c.args.forest.parents.now c.args.forest.depths.now c.args.items.now c.args.to _ _ c.loop-from.from c.loop-from.to c.loop-from.counts.keys.items c.loop-from.counts.variants.items c.loop-from.invariant _
    (step_from c.args.forest.parents.now c.args.forest.depths.now c.args.items.now _ _ c.args.ways.now.starts.items c.args.ways.now.nexts.items c.requires.nodes c.requires.depths c.requires.items c.requires.ways c.loop-from.from c.loop-from.to _ c.height.result c.height-in-loop-from.result c.is_same.result c.loop-from.invariant.from_place c.height.ensures c.height-in-loop-from.ensures c.if-height.true c.is_same.ensures.1 c.loop-from-test.true refl)

pub remove-requires-clause-variant_counted : goal.remove-requires-clause-variant_counted
remove-requires-clause-variant_counted c =
    variant_removable c.args.forest.parents.now c.args.forest.depths.now c.args.items.now c.args.to _ _ c.loop-from.from c.loop-from.to c.loop-from.counts.keys.items c.loop-from.counts.variants.items c.loop-from.invariant _
    (step_from c.args.forest.parents.now c.args.forest.depths.now c.args.items.now _ _ c.args.ways.now.starts.items c.args.ways.now.nexts.items c.requires.nodes c.requires.depths c.requires.items c.requires.ways c.loop-from.from c.loop-from.to _ c.height.result c.height-in-loop-from.result c.is_same.result c.loop-from.invariant.from_place c.height.ensures c.height-in-loop-from.ensures c.if-height.true c.is_same.ensures.1 c.loop-from-test.true refl)

pub loop-from-smaller-then-height : goal.loop-from-smaller-then-height
loop-from-smaller-then-height c =
    let step = step_from c.args.forest.parents.now c.args.forest.depths.now c.args.items.now _ _ c.args.ways.now.starts.items c.args.ways.now.nexts.items c.requires.nodes c.requires.depths c.requires.items c.requires.ways c.loop-from.from c.loop-from.to c.next-from.result c.height.result c.height-in-loop-from.result c.is_same.result c.loop-from.invariant.from_place c.height.ensures c.height-in-loop-from.ensures c.if-height.true c.is_same.ensures.1 c.loop-from-test.true c.next-from.ensures in
    let falls : rank c.args.forest.depths.now c.args.items.now c.next-from.result + rank c.args.forest.depths.now c.args.items.now c.loop-from.to
    < rank c.args.forest.depths.now c.args.items.now c.loop-from.from + rank c.args.forest.depths.now c.args.items.now c.loop-from.to = omega (arith, step.falls) in
    falls

pub loop-from-preserved-then-height : goal.loop-from-preserved-then-height
loop-from-preserved-then-height c =
    removed c.args.forest.parents.now c.args.forest.depths.now c.args.items.now c.args.to _ _ c.loop-from.from c.loop-from.to c.loop-from.counts.keys.items c.loop-from.counts.variants.items c.loop-from.invariant c.next-from.result
    (step_from c.args.forest.parents.now c.args.forest.depths.now c.args.items.now _ _ c.args.ways.now.starts.items c.args.ways.now.nexts.items c.requires.nodes c.requires.depths c.requires.items c.requires.ways c.loop-from.from c.loop-from.to c.next-from.result c.height.result c.height-in-loop-from.result c.is_same.result c.loop-from.invariant.from_place c.height.ensures c.height-in-loop-from.ensures c.if-height.true c.is_same.ensures.1 c.loop-from-test.true c.next-from.ensures)
    c.remove.new.self.keys.items c.remove.new.self.variants.items c.remove.ensures.key_count c.remove.ensures.variant_count c.remove.ensures.keys c.remove.ensures.variants

pub add-requires-clause-key : goal.add-requires-clause-key
add-requires-clause-key c i lt = omega (arith, keys_below c.args.items.now _ _ _ c.requires.items i lt, c.loop-from.invariant.same_keys)

pub add-requires-clause-variant : goal.add-requires-clause-variant
add-requires-clause-variant c i lt = omega (arith, variants_below c.args.items.now _ _ _ c.requires.items i lt, c.loop-from.invariant.same_variants)

pub add-requires-clause-key_room : goal.add-requires-clause-key_room
add-requires-clause-key_room c = key_room c.args.forest.parents.now c.args.forest.depths.now c.args.items.now c.args.to _ _ c.loop-from.from c.loop-from.to c.loop-from.counts.keys.items c.loop-from.counts.variants.items c.loop-from.invariant c.requires.few

pub add-requires-clause-variant_room : goal.add-requires-clause-variant_room
add-requires-clause-variant_room c = variant_room c.args.forest.parents.now c.args.forest.depths.now c.args.items.now c.args.to _ _ c.loop-from.from c.loop-from.to c.loop-from.counts.keys.items c.loop-from.counts.variants.items c.loop-from.invariant c.requires.few

pub loop-from-smaller : goal.loop-from-smaller
loop-from-smaller c =
    let step = step_to c.args.forest.parents.now c.args.forest.depths.now c.args.items.now _ _ c.args.ways.now.starts.items c.args.ways.now.nexts.items c.requires.nodes c.requires.depths c.requires.items c.requires.ways c.loop-from.from c.loop-from.to c.next-to.result c.height.result c.height-in-loop-from.result c.loop-from.invariant.to_place c.height.ensures c.height-in-loop-from.ensures c.if-height.false c.next-to.ensures in
    let falls : rank c.args.forest.depths.now c.args.items.now c.loop-from.from + rank c.args.forest.depths.now c.args.items.now c.next-to.result
    < rank c.args.forest.depths.now c.args.items.now c.loop-from.from + rank c.args.forest.depths.now c.args.items.now c.loop-from.to = omega (arith, step.falls) in
    falls

pub loop-from-preserved : goal.loop-from-preserved
loop-from-preserved c =
    added c.args.forest.parents.now c.args.forest.depths.now c.args.items.now c.args.to _ _ c.loop-from.from c.loop-from.to c.loop-from.counts.keys.items c.loop-from.counts.variants.items c.loop-from.invariant c.next-to.result
    (step_to c.args.forest.parents.now c.args.forest.depths.now c.args.items.now _ _ c.args.ways.now.starts.items c.args.ways.now.nexts.items c.requires.nodes c.requires.depths c.requires.items c.requires.ways c.loop-from.from c.loop-from.to c.next-to.result c.height.result c.height-in-loop-from.result c.loop-from.invariant.to_place c.height.ensures c.height-in-loop-from.ensures c.if-height.false c.next-to.ensures)
    c.add.new.self.keys.items c.add.new.self.variants.items c.add.ensures.key_count c.add.ensures.variant_count c.add.ensures.keys c.add.ensures.variants

pub returns-clause-counted : goal.returns-clause-counted
returns-clause-counted c =
    arrived c.args.forest.parents.now c.args.forest.depths.now c.args.items.now c.args.to _ _ c.loop-from.from c.loop-from.to c.loop-from.counts.keys.items c.loop-from.counts.variants.items
    (c.is_same.ensures.0 c.loop-from-test.false) c.loop-from.invariant
