use Rattle.std.proofs.Common.{◌<◌, ◌^◌, length, sym, subst, arith}
use Rattle.jd_jlists.proofs.Rests.{few_members}
use Rattle.jd_jlists.proofs.listing.add_classes.Goals as goal

pub add_members-requires : goal.add_members-requires
add_members-requires c =
    let below : c.loop-index.index < length c.args.classes.now = omega arith in
    subst (λ l. length l < 2 ^ 32) (sym c.deref.ensures.value) (few_members c.args.classes.now c.loop-index.index c.index-classes-index.result c.index-classes-index.is below c.requires.places)
