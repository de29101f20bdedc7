use Rattle.std.proofs.Common.{length, map, sym}
use Rattle.std.proofs.lemmas.List.{length-map}
use Rattle.jd_jlists.specs.Views.{member_of_view}
use Rattle.jd_jseen.proofs.Tables.{alone, nodes, within}
use Rattle.jd_jseen.proofs.Seeing.{are_seen}
use Rattle.jd_jseen.proofs.seen.seen_of.Goals as goal

pub own_cells-requires-clause-within : goal.own_cells-requires-clause-within
own_cells-requires-clause-within c = within c.args.parents.now (map member_of_view c.args.members.now) c.args.names.now c.args.count c.requires.tables

pub own_cells-requires-clause-alone : goal.own_cells-requires-clause-alone
own_cells-requires-clause-alone c = alone c.args.parents.now (map member_of_view c.args.members.now) c.args.names.now c.args.count c.requires.tables

pub nearest_values-requires-clause-nodes : goal.nearest_values-requires-clause-nodes
nearest_values-requires-clause-nodes c = nodes c.args.parents.now (map member_of_view c.args.members.now) c.args.names.now c.args.count c.requires.tables

pub returns-clause-seen : goal.returns-clause-seen
returns-clause-seen c =
    are_seen c.args.parents.now (map member_of_view c.args.members.now) c.args.names.now c.args.count (length c.args.members.now) c.in_ok-own.own.items c.in_ok-cells.cells.items (sym (length-map c.args.members.now member_of_view))
    c.in_ok-own.ensures c.in_ok-cells.ensures
