use Rattle.std.proofs.Common.{length, map, sym, subst}
use Rattle.std.proofs.lemmas.List.{length-map}
use Rattle.jd_jlists.specs.Views.{member_of_view}
use Rattle.jd_jclashes.specs.Items.{AreItemsOf}
use Rattle.jd_jclashes.specs.Repeats.{is_compared}
use Rattle.jd_jclashes.proofs.Differing.{are_items, found_differing, have_one_key}
use Rattle.jd_jclashes.proofs.items.first_differing.Goals as goal

pub first_disagreeing-requires-clause-items : goal.first_disagreeing-requires-clause-items
first_disagreeing-requires-clause-items c =
    let ms = map member_of_view c.args.members.now in
    let names = c.args.names.now in
    let variants = c.args.variants.now in
    let are = subst (AreItemsOf (is_compared c.args.compared) ms names.of.now names.count variants.of.now variants.count) (sym c.deref.ensures.value) c.in_ok-items.ensures in
    are_items (is_compared c.args.compared) ms names.of.now names.count variants.of.now variants.count c.deref.result.now are c.requires.named c.requires.numbered
    (length c.args.forest.parents.now) (length c.args.members.now) (sym (length-map c.args.members.now member_of_view)) c.requires.classes

pub first_disagreeing-requires-clause-one_key : goal.first_disagreeing-requires-clause-one_key
first_disagreeing-requires-clause-one_key c =
    let ms = map member_of_view c.args.members.now in
    let names = c.args.names.now in
    let variants = c.args.variants.now in
    let are = subst (AreItemsOf (is_compared c.args.compared) ms names.of.now names.count variants.of.now variants.count) (sym c.deref.ensures.value) c.in_ok-items.ensures in
    have_one_key (is_compared c.args.compared) ms names.of.now names.count variants.of.now variants.count c.deref.result.now are c.requires.named c.requires.numbered

pub returns-clause-found : goal.returns-clause-found
returns-clause-found c units same same_ups =
    let ms = map member_of_view c.args.members.now in
    let names = c.args.names.now in
    let variants = c.args.variants.now in
    let are = subst (AreItemsOf (is_compared c.args.compared) ms names.of.now names.count variants.of.now variants.count) (sym c.deref.ensures.value) c.in_ok-items.ensures in
    found_differing (is_compared c.args.compared) ms names.of.now names.count variants.of.now variants.count c.deref.result.now are c.requires.named c.requires.numbered
    units c.args.forest.parents.now same same_ups c.in_ok-first_disagreeing.field-0 c.in_ok-first_disagreeing.ensures
