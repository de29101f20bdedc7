use Rattle.std.proofs.Common.{◌≡◌, ℕ, ◌+◌, ◌*◌, map, length, set, Some, sym, ap, ◌∙◌, subst, arith}
use Rattle.jd_jlists.specs.Views.{member_of_view}
use Rattle.jd_jseen.specs.Own.{AreOwn}
use Rattle.jd_jseen.proofs.Listed.{few_before, viewed_at}
use Rattle.jd_jseen.proofs.Writing.{inside, next_routine, not_written, one_written, same_number}
use Rattle.jd_jseen.proofs.own.own_cells.Goals as goal

pub index_mut-requires : goal.index_mut-requires
index_mut-requires c =
    let members = map member_of_view c.args.members.now in
    let a = c.index-members-index.result in
    let there = viewed_at c.args.members.now c.loop-index.index a c.index-members-index.is c.loop-index-test.true in
    omega (arith, inside members c.args.names.now c.args.count c.args.classes c.loop-index.index (member_of_view a) c.loop-index.cells.items there c.loop-index.invariant.own c.in-Some.column (sym c.column_of.ensures ∙ c.in-Some.is) c.requires.within)

pub overflow_add-routine : goal.overflow_add-routine
overflow_add-routine c = omega (arith, few_before (map member_of_view c.args.members.now) c.loop-index.index)

pub loop-index-preserved : goal.loop-index-preserved
loop-index-preserved c =
    let members = map member_of_view c.args.members.now in
    let a = c.index-members-index.result in
    let i = c.loop-index.index in
    let there = viewed_at c.args.members.now i a c.index-members-index.is c.loop-index-test.true in
    let has = sym c.column_of.ensures ∙ c.in-Some.is in
    let own = c.loop-index.invariant.own in
    record {
      own = subst (λ (r : ℕ). AreOwn members c.args.names.now c.args.count c.args.classes (i + 1) (set c.loop-index.cells.items (a.class * (c.args.count + 1) + c.in-Some.column) (Some r))) (sym c.loop-index.invariant.next)
          (one_written members c.args.names.now c.args.count c.args.classes i (member_of_view a) c.loop-index.cells.items there own c.in-Some.column has c.requires.within c.requires.alone);
      next = ap (λ (r : ℕ). r + 1) c.loop-index.invariant.next
          ∙ sym (next_routine members c.args.names.now c.args.count c.args.classes i (member_of_view a) c.loop-index.cells.items there own c.in-Some.column has);
    }

pub loop-index-preserved-in_default : goal.loop-index-preserved-in_default
loop-index-preserved-in_default c =
    let members = map member_of_view c.args.members.now in
    let a = c.index-members-index.result in
    let there = viewed_at c.args.members.now c.loop-index.index a c.index-members-index.is c.loop-index-test.true in
    let own = c.loop-index.invariant.own in
    let without = sym c.column_of.ensures ∙ c.in_default.is in
    record {
      own = not_written members c.args.names.now c.args.count c.args.classes c.loop-index.index (member_of_view a) c.loop-index.cells.items there own without;
      next = c.loop-index.invariant.next ∙ sym (same_number members c.args.names.now c.args.count c.args.classes c.loop-index.index (member_of_view a) c.loop-index.cells.items there own without);
    }

pub returns : goal.returns
returns c =
    let all : c.loop-index.index ≡ length c.args.members.now = omega arith in
    subst (λ (n : ℕ). AreOwn (map member_of_view c.args.members.now) c.args.names.now c.args.count c.args.classes n c.loop-index.cells.items) all c.loop-index.invariant.own
