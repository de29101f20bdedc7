use Rattle.std.proofs.Common.{◌≡◌, ◌∙◌, length, refl, arith}
use Rattle.jd_inherited.proofs.Disagreeing.{tells}
use Rattle.jd_inherited.proofs.Firsts.{all_seen}
use Rattle.jd_inherited.proofs.ItemFacts.{keys_below, limits_stay, nodes_below, variants_below}
use Rattle.jd_inherited.proofs.Orders.{below_count, index_at}
use Rattle.jd_inherited.proofs.Searching.{none_searched, one_passed, one_taken, step_up}
use Rattle.jd_inherited.proofs.find.search.Goals as goal
use Rattle.jd_inherited.proofs.find.search.Goals.{then-differ, else-differ}

pub bounds-items-i : goal.bounds-items-i
bounds-items-i c = below_count c.args.order.now (length c.args.items.now) c.loop-i.i-index c.requires.order c.loop-i-test.true

pub loop-i-init : goal.loop-i-init
loop-i-init c = none_searched c.args.forest.parents.now c.args.forest.depths.now c.args.items.now c.requires.depths (length c.args.counts.now.keys.items) (length c.args.counts.now.variants.items) c.args.order.now c.args.counts.now.keys.items c.args.counts.now.variants.items refl refl c.requires.no_key c.requires.no_variant

pub next-above-requires-clause-place : goal.next-above-requires-clause-place
next-above-requires-clause-place c = nodes_below c.args.items.now (length c.args.forest.parents.now) (length c.args.counts.now.keys.items) (length c.args.counts.now.variants.items) c.requires.items (index_at c.args.order.now c.loop-i.i-index) (below_count c.args.order.now (length c.args.items.now) c.loop-i.i-index c.requires.order c.loop-i-test.true)

pub walk-requires-clause-items : goal.walk-requires-clause-items
walk-requires-clause-items c = limits_stay c.args.items.now (length c.args.forest.parents.now) (length c.args.counts.now.keys.items) (length c.args.counts.now.variants.items) c.requires.items _ _ c.loop-i.invariant.same_keys c.loop-i.invariant.same_variants

pub walk-requires-clause-to : goal.walk-requires-clause-to
walk-requires-clause-to c =
    let inside = below_count c.args.order.now (length c.args.items.now) c.loop-i.i-index c.requires.order c.loop-i-test.true in
    let step = step_up c.args.forest.parents.now c.args.forest.depths.now c.args.items.now c.requires.depths (length c.args.counts.now.keys.items) (length c.args.counts.now.variants.items) c.args.order.now c.args.ways.now.starts.items c.args.ways.now.nexts.items (index_at c.args.order.now c.loop-i.i-index) c.next-above.result c.requires.nodes c.requires.items c.requires.ways inside c.next-above.ensures in
    step.place

pub differ-requires-clause-key : goal.differ-requires-clause-key
differ-requires-clause-key c = keys_below c.args.items.now (length c.args.forest.parents.now) _ _ (limits_stay c.args.items.now (length c.args.forest.parents.now) (length c.args.counts.now.keys.items) (length c.args.counts.now.variants.items) c.requires.items (length c.walk.new.counts.keys.items) (length c.walk.new.counts.variants.items) (c.walk.ensures.key_count ∙ c.loop-i.invariant.same_keys) (c.walk.ensures.variant_count ∙ c.loop-i.invariant.same_variants)) (index_at c.args.order.now c.loop-i.i-index) (below_count c.args.order.now (length c.args.items.now) c.loop-i.i-index c.requires.order c.loop-i-test.true)

pub differ-requires-clause-variant : goal.differ-requires-clause-variant
differ-requires-clause-variant c = variants_below c.args.items.now (length c.args.forest.parents.now) _ _ (limits_stay c.args.items.now (length c.args.forest.parents.now) (length c.args.counts.now.keys.items) (length c.args.counts.now.variants.items) c.requires.items (length c.walk.new.counts.keys.items) (length c.walk.new.counts.variants.items) (c.walk.ensures.key_count ∙ c.loop-i.invariant.same_keys) (c.walk.ensures.variant_count ∙ c.loop-i.invariant.same_variants)) (index_at c.args.order.now c.loop-i.i-index) (below_count c.args.order.now (length c.args.items.now) c.loop-i.i-index c.requires.order c.loop-i-test.true)

pub loop-i-preserved : goal.loop-i-preserved
loop-i-preserved c =
    let inside = below_count c.args.order.now (length c.args.items.now) c.loop-i.i-index c.requires.order c.loop-i-test.true in
    let step = step_up c.args.forest.parents.now c.args.forest.depths.now c.args.items.now c.requires.depths (length c.args.counts.now.keys.items) (length c.args.counts.now.variants.items) c.args.order.now c.args.ways.now.starts.items c.args.ways.now.nexts.items (index_at c.args.order.now c.loop-i.i-index) c.next-above.result c.requires.nodes c.requires.items c.requires.ways inside c.next-above.ensures in
    let decides = tells c.args.forest.parents.now c.args.forest.depths.now c.args.items.now c.requires.depths c.requires.one_key (index_at c.args.order.now c.loop-i.i-index) inside (length c.args.forest.parents.now) c.walk.new.counts.keys.items c.walk.new.counts.variants.items c.next-above.result c.differ.result
    (limits_stay c.args.items.now (length c.args.forest.parents.now) (length c.args.counts.now.keys.items) (length c.args.counts.now.variants.items) c.requires.items (length c.walk.new.counts.keys.items) (length c.walk.new.counts.variants.items) (c.walk.ensures.key_count ∙ c.loop-i.invariant.same_keys) (c.walk.ensures.variant_count ∙ c.loop-i.invariant.same_variants))
    step c.walk.ensures.counted c.differ.ensures in
    elim c.if-differ.branch [
      | then-differ w ↦ one_taken c.args.forest.parents.now c.args.forest.depths.now c.args.items.now c.requires.depths (length c.args.counts.now.keys.items) (length c.args.counts.now.variants.items) c.args.order.now c.loop-i.i-index c.loop-i.place c.next-above.result c.loop-i.first c.loop-i.counts.keys.items c.loop-i.counts.variants.items
          c.walk.new.counts.keys.items c.walk.new.counts.variants.items c.loop-i.invariant step.place c.walk.ensures.counted c.walk.ensures.key_count c.walk.ensures.variant_count
          c.differ.result c.if-differ.first w.lesser.result decides w.if-differ.true w.first-is w.lesser.ensures
      | else-differ w ↦ one_passed c.args.forest.parents.now c.args.forest.depths.now c.args.items.now c.requires.depths (length c.args.counts.now.keys.items) (length c.args.counts.now.variants.items) c.args.order.now c.loop-i.i-index c.loop-i.place c.next-above.result c.loop-i.first c.loop-i.counts.keys.items c.loop-i.counts.variants.items
          c.walk.new.counts.keys.items c.walk.new.counts.variants.items c.loop-i.invariant step.place c.walk.ensures.counted c.walk.ensures.key_count c.walk.ensures.variant_count
          c.differ.result c.if-differ.first decides w.if-differ.false w.first-is
    ]

pub returns : goal.returns
returns c =
    let all : c.loop-i.i-index ≡ length c.args.order.now = omega arith in
    all_seen c.args.forest.parents.now c.args.items.now c.args.order.now c.requires.order c.loop-i.i-index c.loop-i.first all c.loop-i.invariant.least
