use Rattle.std.proofs.Common.{◌<◌, length, map, refl, sym, ap, subst, ◌∙◌}
use Rattle.std.specs.List.{All}
use Rattle.std.proofs.lemmas.List.{length-map}
use Rattle.jd_syntax.specs.JavaTrees.{unit_view}
use Rattle.jd_jgraph.specs.Tables.{routine_count}
use Rattle.jd_jlists.specs.Views.{member_of_view}
use Rattle.jd_jnumbers.specs.Numbered.{AreNames, count_of, texts_of}
use Rattle.jd_jseen.specs.Seen.{cells_of, name_count}
use Rattle.jd_classes.proofs.FewFamilies.{all_numbers_below, few_families}
use Rattle.jd_classes.proofs.Gathering.{closed_as, named_tables, seen_as}
use Rattle.jd_classes.proofs.gather.closed_graph.Goals as goal

pub family_graph-requires-clause-few : goal.family_graph-requires-clause-few
family_graph-requires-clause-few c = few_families (map unit_view c.args.units.now) c.requires.stand c.args.known.families.now.numbers.items c.args.known.families.now.count c.requires.each c.requires.families

pub family_graph-requires-clause-numbers : goal.family_graph-requires-clause-numbers
family_graph-requires-clause-numbers c = c.requires.numbers.each ∙ sym (ap length c.requires.members) ∙ length-map c.args.members.now member_of_view

pub family_graph-requires-clause-names : goal.family_graph-requires-clause-names
family_graph-requires-clause-names c = subst (λ ms. AreNames ms (texts_of c.args.known.names.now) c.args.known.names.now.numbers.items) (sym c.requires.members) c.requires.names

pub family_graph-requires-clause-each : goal.family_graph-requires-clause-each
family_graph-requires-clause-each c = ap length c.deref.ensures.value ∙ c.requires.each ∙ sym (ap routine_count c.requires.members)

pub family_graph-requires-clause-below : goal.family_graph-requires-clause-below
family_graph-requires-clause-below c =
    subst (All (λ f. f < c.args.known.families.now.count)) (sym c.deref.ensures.value)
    (all_numbers_below (map unit_view c.args.units.now) c.args.known.families.now.numbers.items c.args.known.families.now.count c.requires.each c.requires.families)

pub returns-clause-closed : goal.returns-clause-closed
returns-clause-closed c =
    let units = map unit_view c.args.units.now in
    let tables = named_tables units _ _ (map member_of_view c.args.members.now) c.args.known.names.now.numbers.items (name_count c.args.known.seen.now) (count_of c.args.known.names.now)
    c.requires.class_names c.requires.parents c.requires.members c.requires.stand c.requires.numbers c.requires.counted in
    let seen = seen_as units c.args.known.names.now.numbers.items _ (count_of c.args.known.names.now) (name_count c.args.known.seen.now) (cells_of c.args.known.seen.now) refl (sym c.requires.counted) c.requires.seen in
    closed_as units c.deref.result.now c.args.known.families.now.numbers.items c.args.known.families.now.count c.family_graph.result c.deref.ensures.value
    (c.family_graph.ensures.calls units tables seen) (c.family_graph.ensures.reaches units tables seen)
