use Rattle.std.proofs.Common.{map}
use Rattle.jd_jlists.specs.Views.{member_of_view}
use Rattle.jd_jclashes.specs.Repeats.{is_compared}
use Rattle.jd_jclashes.proofs.ItemLists.{AreItemsTo}
use Rattle.jd_jclashes.proofs.items.items_of.Given as goal

abbrev pub invariant-loop-i : goal.invariant-loop-i
invariant-loop-i l = AreItemsTo (is_compared l.compared) (map member_of_view l.members) l.names.of.now l.names.count l.variants.of.now l.variants.count l.i l.items.items
