use Rattle.std.proofs.Common.{◌+◌, ◌<◌, ◌++◌, ◌∷◌, [], slice_set, ap, subst, sym, ◌∙◌, arith}
use Rattle.jd_inherited.specs.declared.places.Place.TheVariants.{AtItem, Top}
use Rattle.jd_inherited.specs.Places.{item_at}
use Rattle.jd_inherited.proofs.Links.{AreWaysTo, none_placed, one_more_item}
use Rattle.jd_inherited.proofs.Orders.{reads_any}
use Rattle.jd_inherited.proofs.places.ways_past.Goals as goal

pub loop-i-init : goal.loop-i-init
loop-i-init c = none_placed c.args.items.now c.args.nodes c.in_ok-starts.starts.items c.new-nexts.result.items c.in_ok-starts.ensures c.new-nexts.ensures.items

pub loop-i-preserved : goal.loop-i-preserved
loop-i-preserved c =
    let inside : (item_at c.args.items.now c.loop-i.i).node < c.args.nodes = c.requires.within c.loop-i.i c.loop-i-test.true in
    subst (AreWaysTo c.args.items.now c.args.nodes (c.loop-i.i + 1) (slice_set c.loop-i.starts.items (item_at c.args.items.now c.loop-i.i).node (AtItem c.loop-i.i)))
    (sym (c.in_ok-push.ensures.items ∙ ap (λ x. c.loop-i.nexts.items ++ x ∷ []) (reads_any c.loop-i.starts.items (item_at c.args.items.now c.loop-i.i).node c.index-start.result.now Top (omega (arith, inside, c.loop-i.invariant.start_count)) c.index-start.ensures)))
    (one_more_item c.args.items.now c.args.nodes c.loop-i.i c.loop-i.starts.items c.loop-i.nexts.items inside c.loop-i.invariant)
