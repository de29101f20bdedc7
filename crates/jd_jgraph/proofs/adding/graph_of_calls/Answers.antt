use Rattle.std.proofs.Common.{ℕ, ◌+◌, map, slice_index, refl, sym, ap, ◌∙◌, arith}
use Rattle.jd_jlists.specs.Views.{member_of_view}
use Rattle.jd_jgraph.specs.Callees.{lookup, called_by}
use Rattle.jd_jgraph.specs.Edges.{with_edges}
use Rattle.jd_reach.specs.Graphs.{edge}
use Rattle.jd_jgraph.proofs.Called.{no_more, none_yet, one_more}
use Rattle.jd_jgraph.proofs.Routines.{after_other, after_routine, viewed_at, within_all}
use Rattle.jd_jgraph.proofs.adding.graph_of_calls.Goals as goal

pub loop-member-init : goal.loop-member-init
loop-member-init c =
    record {
      count = c.in_ok-graph.ensures.count;
      edges = none_yet (lookup c.args.callees.now) (map member_of_view c.args.members.now) (edge c.in_ok-graph.graph) c.in_ok-graph.ensures.empty;
      next = refl;
    }

pub loop-member-preserved-then-not-is_routine : goal.loop-member-preserved-then-not-is_routine
loop-member-preserved-then-not-is_routine c =
    let members = map member_of_view c.args.members.now in
    let a = member_of_view c.member-item.result in
    let i = c.loop-member.member-index in
    let there = viewed_at c.args.members.now i c.member-item.result c.member-item.is c.loop-member-test.true in
    let other = sym c.is_routine.ensures ∙ c.if-not-is_routine.true in
    record {
      count = c.loop-member.invariant.count;
      edges = no_more (lookup c.args.callees.now) members i a there (edge c.loop-member.graph) c.loop-member.invariant.edges other;
      next = c.loop-member.invariant.next ∙ sym (after_other members i a there other);
    }

pub bounds-families-routine : goal.bounds-families-routine
bounds-families-routine c =
    let members = map member_of_view c.args.members.now in
    let a = member_of_view c.member-item.result in
    let i = c.loop-member.member-index in
    let there = viewed_at c.args.members.now i c.member-item.result c.member-item.is c.loop-member-test.true in
    omega (arith, c.loop-member.invariant.next, c.requires.routines, within_all c.args.members.now i a there (sym c.is_routine.ensures ∙ c.if-not-is_routine.false))

pub offset_bounds-families-routine : goal.offset_bounds-families-routine
offset_bounds-families-routine c =
    let members = map member_of_view c.args.members.now in
    let a = member_of_view c.member-item.result in
    let i = c.loop-member.member-index in
    let there = viewed_at c.args.members.now i c.member-item.result c.member-item.is c.loop-member-test.true in
    omega (arith, c.loop-member.invariant.next, c.requires.routines, within_all c.args.members.now i a there (sym c.is_routine.ensures ∙ c.if-not-is_routine.false))

pub add_member-requires-clause-from : goal.add_member-requires-clause-from
add_member-requires-clause-from c =
    let members = map member_of_view c.args.members.now in
    let a = member_of_view c.member-item.result in
    let i = c.loop-member.member-index in
    let there = viewed_at c.args.members.now i c.member-item.result c.member-item.is c.loop-member-test.true in
    let lt = within_all c.args.members.now i a there (sym c.is_routine.ensures ∙ c.if-not-is_routine.false) in
    omega (arith, c.loop-member.invariant.count, c.requires.below.families c.loop-member.routine 0 (omega (arith, c.loop-member.invariant.next, c.requires.routines, lt)))

pub overflow_add-routine : goal.overflow_add-routine
overflow_add-routine c =
    let members = map member_of_view c.args.members.now in
    let a = member_of_view c.member-item.result in
    let i = c.loop-member.member-index in
    let there = viewed_at c.args.members.now i c.member-item.result c.member-item.is c.loop-member-test.true in
    omega (arith, c.loop-member.invariant.next, c.requires.routines, within_all c.args.members.now i a there (sym c.is_routine.ensures ∙ c.if-not-is_routine.false))

pub loop-member-preserved : goal.loop-member-preserved
loop-member-preserved c =
    let members = map member_of_view c.args.members.now in
    let a = member_of_view c.member-item.result in
    let i = c.loop-member.member-index in
    let there = viewed_at c.args.members.now i c.member-item.result c.member-item.is c.loop-member-test.true in
    let is = sym c.is_routine.ensures ∙ c.if-not-is_routine.false in
    record {
      count = c.in_ok-add_member.ensures.count ∙ c.loop-member.invariant.count;
      edges = one_more (lookup c.args.callees.now) members i a there (edge c.loop-member.graph) c.loop-member.invariant.edges is (edge c.add_member.new.graph)
          (λ x y. c.in_ok-add_member.ensures.edges x y
          ∙ ap (λ (n : ℕ). with_edges (edge c.loop-member.graph) (slice_index c.args.callees.now.families.now n) (called_by (lookup c.args.callees.now) a) x y) c.loop-member.invariant.next);
      next = ap (λ (n : ℕ). n + 1) c.loop-member.invariant.next ∙ sym (after_routine members i a there is);
    }
