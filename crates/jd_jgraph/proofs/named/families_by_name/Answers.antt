use Rattle.std.proofs.Common.{◌≡◌, ℕ, ◌+◌, [], length, map, slice_index, refl, sym, ap, ◌∙◌, subst, arith}
use Rattle.std.proofs.lemmas.List.{length-replicate}
use Rattle.jd_jclasses.specs.Members.{is_method}
use Rattle.jd_jlists.specs.Views.{member_of_view}
use Rattle.jd_jgraph.proofs.Methods.{as_many, either_way, no_method, no_more, none_yet}
use Rattle.jd_jgraph.proofs.Routines.{after_other, after_routine, viewed_at, within_all}
use Rattle.jd_jgraph.specs.Named.{AreNamed, lists_of, put_if}
use Rattle.jd_jgraph.proofs.named.families_by_name.Goals as goal

pub loop-index-init : goal.loop-index-init
loop-index-init c =
    record {
      each = ap length c.in_ok-lists.ensures ∙ length-replicate c.args.count [];
      named = none_yet (map member_of_view c.args.members.now) c.args.names.now c.args.families.now (lists_of c.in_ok-lists.lists.items) c.args.count c.in_ok-lists.ensures;
      next = refl;
    }

pub loop-index-preserved-then-not-is_routine : goal.loop-index-preserved-then-not-is_routine
loop-index-preserved-then-not-is_routine c =
    let members = map member_of_view c.args.members.now in
    let a = member_of_view c.index-members-index.result in
    let i = c.loop-index.index in
    let there = viewed_at c.args.members.now i c.index-members-index.result c.index-members-index.is c.loop-index-test.true in
    let other = sym c.is_routine.ensures ∙ c.if-not-is_routine.true in
    record {
      each = c.loop-index.invariant.each;
      named = no_more members c.args.names.now c.args.families.now i a there (lists_of c.loop-index.lists.items) c.loop-index.invariant.named (no_method a.kind other);
      next = c.loop-index.invariant.next ∙ sym (after_other members i a there other);
    }

pub offset_bounds-families-routine : goal.offset_bounds-families-routine
offset_bounds-families-routine c =
    let members = map member_of_view c.args.members.now in
    let a = member_of_view c.index-members-index.result in
    let i = c.loop-index.index in
    let there = viewed_at c.args.members.now i c.index-members-index.result c.index-members-index.is c.loop-index-test.true in
    omega (arith, c.loop-index.invariant.next, c.requires.routines, within_all c.args.members.now i a there (sym c.is_routine.ensures ∙ c.if-not-is_routine.false))

pub bounds-families-routine : goal.bounds-families-routine
bounds-families-routine c =
    let members = map member_of_view c.args.members.now in
    let a = member_of_view c.index-members-index.result in
    let i = c.loop-index.index in
    let there = viewed_at c.args.members.now i c.index-members-index.result c.index-members-index.is c.loop-index-test.true in
    omega (arith, c.loop-index.invariant.next, c.requires.routines, within_all c.args.members.now i a there (sym c.is_routine.ensures ∙ c.if-not-is_routine.false))

pub overflow_add-routine : goal.overflow_add-routine
overflow_add-routine c =
    let members = map member_of_view c.args.members.now in
    let a = member_of_view c.index-members-index.result in
    let i = c.loop-index.index in
    let there = viewed_at c.args.members.now i c.index-members-index.result c.index-members-index.is c.loop-index-test.true in
    omega (arith, c.loop-index.invariant.next, c.requires.routines, within_all c.args.members.now i a there (sym c.is_routine.ensures ∙ c.if-not-is_routine.false))

pub loop-index-preserved : goal.loop-index-preserved
loop-index-preserved c =
    let members = map member_of_view c.args.members.now in
    let a = member_of_view c.index-members-index.result in
    let i = c.loop-index.index in
    let there = viewed_at c.args.members.now i c.index-members-index.result c.index-members-index.is c.loop-index-test.true in
    let is = sym c.is_routine.ensures ∙ c.if-not-is_routine.false in
    let number = c.loop-index.invariant.next in
    let below = c.requires.below i c.loop-index-test.true in
    record {
      each = as_many _ _ (lists_of c.put_method.new.lists.items) _ _ c.args.count c.loop-index.invariant.each c.in_ok-put_method.ensures;
      named = either_way members c.args.names.now c.args.families.now i a there (lists_of c.loop-index.lists.items) c.loop-index.invariant.named (omega (arith, below, c.loop-index.invariant.each)) (lists_of c.put_method.new.lists.items)
          (c.in_ok-put_method.ensures ∙ ap (λ (n : ℕ). put_if (is_method a.kind) (lists_of c.loop-index.lists.items) (slice_index c.args.names.now i) (slice_index c.args.families.now n)) number);
      next = ap (λ (n : ℕ). n + 1) number ∙ sym (after_routine members i a there is);
    }

pub returns-clause-named : goal.returns-clause-named
returns-clause-named c =
    let all : c.loop-index.index ≡ length c.args.members.now = omega arith in
    subst (λ (n : ℕ). AreNamed (map member_of_view c.args.members.now) c.args.names.now c.args.families.now n (lists_of c.loop-index.lists.items)) all c.loop-index.invariant.named
