use Rattle.std.proofs.Common.{map, length, sym, arith}
use Rattle.std.proofs.lemmas.List.{length-map}
use Rattle.jd_jlists.specs.Views.{member_of_view}
use Rattle.jd_jseen.specs.Seen.{cells_of, name_count}
use Rattle.jd_jfamilies.proofs.Listing.{are_overridden, of_classes}
use Rattle.jd_jfamilies.proofs.More.{few_before}
use Rattle.jd_jfamilies.proofs.overridden.overridden_of.Goals as goal

pub all_seen_above-requires-clause-within : goal.all_seen_above-requires-clause-within
all_seen_above-requires-clause-within c =
    of_classes c.numbers_of_classes.ensures.parents c.numbers_of_classes.ensures.members c.numbers_of_routines.ensures.members c.one_method.ensures c.args.parents.now (map member_of_view c.args.members.now) c.args.names.now
    (name_count c.args.seen.now) c.requires.tables

pub returns-clause-few : goal.returns-clause-few
returns-clause-few c = omega (arith, few_before (map member_of_view c.args.members.now) (length c.args.members.now), c.in_ok-overridden.ensures.each)

pub returns-clause-overridden : goal.returns-clause-overridden
returns-clause-overridden c = λ units tables.
    are_overridden c.numbers_of_classes.ensures.parents c.numbers_of_classes.ensures.members c.numbers_of_routines.ensures.members c.one_method.ensures c.args.parents.now (map member_of_view c.args.members.now) c.args.names.now
    (name_count c.args.seen.now) (cells_of c.args.seen.now) c.in_ok-overridden.overridden.items (length c.args.members.now) (sym (length-map c.args.members.now member_of_view)) c.in_ok-overridden.ensures units tables
    (c.requires.seen units tables)
