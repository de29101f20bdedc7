use Rattle.std.proofs.Common.{◌≡◌, ℕ, ◌<◌, List, length, map, slice_index, sym, ap, ◌∙◌, subst, arith}
use Rattle.std.specs.Bool.{Decides}
use Rattle.std.specs.Global.{Vec}
use Rattle.std.proofs.lemmas.List.{length-map}
use Rattle.jd_syntax.specs.JavaTrees.{JavaUnit}
use Rattle.jd_jclasses.specs.Members.{Declared, declared_members}
use Rattle.jd_jheads.specs.Heads.{names_of}
use Rattle.jd_jlists.specs.Views.{member_of_view}
use Rattle.jd_jnumbers.specs.Numbered.{texts_of}
use Rattle.jd_jseen.specs.Seen.{AreSeen, cells_of, name_count}
use Rattle.jd_reach.specs.Graphs.{edge}
use Rattle.jd_jgraph.specs.Callees.{lookup}
use Rattle.jd_jgraph.specs.declared.callees.Callees.{Callees}
use Rattle.jd_jgraph.specs.Edges.{IsCalledFrom}
use Rattle.jd_jgraph.specs.Named.{AreNamed, lists_of}
use Rattle.jd_jgraph.specs.Tables.{AreNamedTables}
use Rattle.jd_jgraph.proofs.Counting.{IsLookup}
use Rattle.jd_jgraph.proofs.Reaching.{are_calls, reaches}
use Rattle.jd_jgraph.proofs.Whole.{all_edges, count_before, is_lookup, named_below, number_below}
use Rattle.jd_jgraph.proofs.closed.family_graph.Goals as goal
use Rattle.jd_jgraph.proofs.closed.family_graph.Goals.{After-close}

pub families_by_name-requires-clause-below : goal.families_by_name-requires-clause-below
families_by_name-requires-clause-below c i lt =
    let members = map member_of_view c.args.members.now in
    let below : slice_index c.args.names.now.numbers.items i < length (texts_of c.args.names.now) =
    number_below members (texts_of c.args.names.now) c.args.names.now.numbers.items c.requires.names i (omega (arith, lt, length-map c.args.members.now member_of_view)) in
    omega (arith, below, c.count.ensures, ap (λ (l : List ℕ). slice_index l i) c.deref.ensures.value)

pub families_by_name-requires-clause-routines : goal.families_by_name-requires-clause-routines
families_by_name-requires-clause-routines c =
    c.requires.each ∙ sym (count_before (map member_of_view c.args.members.now) (length c.args.members.now) (sym (length-map c.args.members.now member_of_view)))

pub graph_of_calls-requires-clause-routines : goal.graph_of_calls-requires-clause-routines
graph_of_calls-requires-clause-routines c =
    c.requires.each ∙ sym (count_before (map member_of_view c.args.members.now) (length c.args.members.now) (sym (length-map c.args.members.now member_of_view)))

pub graph_of_calls-requires-clause-below : goal.graph_of_calls-requires-clause-below
graph_of_calls-requires-clause-below c =
    let members = map member_of_view c.args.members.now in
    let whole : length c.args.members.now ≡ length members = sym (length-map c.args.members.now member_of_view) in
    let named = subst (λ (vs : List (Vec ℕ)). AreNamed members c.deref.result.now c.args.families.of.now (length c.args.members.now) (lists_of vs)) (sym c.deref-2.ensures.value) c.in_ok-by_name.ensures.named in
    let each = c.requires.each ∙ sym (count_before members (length c.args.members.now) whole) in
    record {
      families = c.requires.below;
      named = named_below members c.deref.result.now c.args.families.of.now c.args.families.count (length c.args.members.now) (lists_of c.deref-2.result.now) whole named each c.requires.below;
    }

-- what the calls are looked up in
abbrev callees_of : After-close → Callees
callees_of c = record { heads = c.args.heads; names = c.args.names; seen = c.args.seen; families = c.args.families.of; by_name = c.deref-2.result }

module _ (c : After-close) (units : List JavaUnit) (tables : AreNamedTables units (names_of c.args.heads.now) c.args.heads.now.parents.items (map member_of_view c.args.members.now) c.args.names.now.numbers.items (name_count c.args.seen.now)) where
  abbrev members : List Declared
  members = map member_of_view c.args.members.now

  abbrev numbers : List ℕ
  numbers = c.args.names.now.numbers.items

  whole : length c.args.members.now ≡ length members
  whole = sym (length-map c.args.members.now member_of_view)

  looked_up : AreSeen units numbers (name_count c.args.seen.now) (cells_of c.args.seen.now) → IsLookup units numbers (lookup (callees_of c))
  looked_up seen =
      let named : AreNamed members numbers c.args.families.of.now (length c.args.members.now) (lists_of c.deref-2.result.now) =
      subst (λ (ns : List ℕ). AreNamed members ns c.args.families.of.now (length c.args.members.now) (lists_of c.deref-2.result.now)) c.deref.ensures.value
      (subst (λ (vs : List (Vec ℕ)). AreNamed members c.deref.result.now c.args.families.of.now (length c.args.members.now) (lists_of vs)) (sym c.deref-2.ensures.value) c.in_ok-by_name.ensures.named) in
      let as_many : length (lookup (callees_of c)).named ≡ length (lookup (callees_of c)).names =
      length-map c.deref-2.result.now (λ (v : Vec ℕ). v.items) ∙ ap length c.deref-2.ensures.value ∙ c.in_ok-by_name.ensures.count ∙ c.count.ensures in
      is_lookup units (lookup (callees_of c)) members numbers (name_count c.args.seen.now) (length c.args.members.now) tables whole c.requires.names named as_many (c.requires.each ∙ sym (count_before members (length c.args.members.now) whole)) seen.constructors

  edges_are : (a b : ℕ) → Decides (edge c.in_ok-graph.graph a b) (IsCalledFrom (lookup (callees_of c)) (declared_members units) (length (declared_members units)) a b)
  edges_are a b =
      all_edges units (lookup (callees_of c)) members numbers (name_count c.args.seen.now) (length c.args.members.now) tables whole (edge c.in_ok-graph.graph a b) a b (c.in_ok-graph.ensures.edges a b)

pub returns-clause-calls : goal.returns-clause-calls
returns-clause-calls c units tables seen =
    let d = (goal.at.returns-clause-calls c).After-close in (
      edge c.in_ok-graph.graph,
      are_calls c.depths_are_an_order.ensures.transitive c.numbers_of_routines.ensures.members c.numbers_of_routines.ensures.routines c.numbers_of_classes.ensures.parents units tables.tables.stand c.args.names.now.numbers.items (lookup (callees_of d)) (looked_up d units tables seen)
          (edge c.in_ok-graph.graph) (edges_are d units tables),
    )

pub returns-clause-reaches : goal.returns-clause-reaches
returns-clause-reaches c units tables seen calls they_are a b a_below b_below =
    let d = (goal.at.returns-clause-reaches c).After-close in
    reaches c.depths_are_an_order.ensures.transitive c.numbers_of_routines.ensures.members c.numbers_of_routines.ensures.routines c.numbers_of_classes.ensures.parents units tables.tables.stand c.args.names.now.numbers.items (lookup (callees_of d)) (looked_up d units tables seen)
    (edge c.in_ok-graph.graph) calls (edges_are d units tables) they_are (edge c.close.new.self a b) a b
    (c.in_ok-close.ensures.closed a b (omega (arith, a_below, c.in_ok-graph.ensures.count)) (omega (arith, b_below, c.in_ok-graph.ensures.count)))
