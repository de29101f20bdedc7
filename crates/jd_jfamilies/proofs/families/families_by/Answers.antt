use Rattle.jd_jfamilies.proofs.Tying.{acyclic, are_families, are_nodes}
use Rattle.jd_jfamilies.proofs.families.families_by.Goals as goal

pub depths-requires-clause-nodes : goal.depths-requires-clause-nodes
depths-requires-clause-nodes c =
    let known = c.requires.overridden in
    are_nodes c.depths_are_an_order.ensures.transitive c.numbers_of_routines.ensures.members known.0 known.1 c.args.overridden.now known.2

pub depths-requires-clause-no_cycle : goal.depths-requires-clause-no_cycle
depths-requires-clause-no_cycle c =
    let known = c.requires.overridden in
    acyclic c.depths_are_an_order.ensures.transitive c.numbers_of_routines.ensures.members known.0 known.1 c.args.overridden.now known.2

pub components-requires-clause-nodes : goal.components-requires-clause-nodes
components-requires-clause-nodes c =
    let known = c.requires.overridden in
    are_nodes c.depths_are_an_order.ensures.transitive c.numbers_of_routines.ensures.members known.0 known.1 c.args.overridden.now known.2

pub returns-clause-families : goal.returns-clause-families
returns-clause-families c = λ units are overridden.
    are_families c.depths_are_an_order.ensures.transitive c.numbers_of_routines.ensures.members units are c.args.overridden.now overridden c.in_ok-components.components.numbers.items c.in_ok-components.components.count
    c.in_ok-components.ensures
