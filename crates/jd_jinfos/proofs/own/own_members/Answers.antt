use Rattle.std.proofs.Common.{◌<◌, List, length, map, ◌∙◌, subst, arith}
use Rattle.std.proofs.lemmas.List.{at_drop_all, length-set}
use Rattle.jd_jclasses.specs.Members.{Declared}
use Rattle.jd_jlists.specs.Views.{member_of_view}
use Rattle.jd_jinfos.proofs.Owning.{IsMade, at_first, at_last, has_class, how_many, next_fields, next_routines, one_member_more}
use Rattle.jd_jinfos.proofs.own.own_members.Goals as goal

pub loop-member-init : goal.loop-member-init
loop-member-init c = record {
  made = at_first c.in_ok-own.own.items c.args.classes (map member_of_view c.args.members.now) c.in_ok-own.ensures;
  whole = how_many c.in_ok-own.own.items c.args.classes c.in_ok-own.ensures;
  fields = omega arith;
  routines = omega arith;
}

pub index_mut-requires : goal.index_mut-requires
index_mut-requires c =
    let below : c.loop-member.member-index < length c.args.members.now = omega arith in
    let known = has_class c.args.classes c.args.members.now c.loop-member.member-index c.member-item.result c.member-item.is below c.requires.classes in
    let whole = c.loop-member.invariant.whole in
    let items = c.loop-member.own.ok.0 in
    omega (arith, known, whole, items)

pub loop-member-preserved : goal.loop-member-preserved
loop-member-preserved c =
    let members = c.args.members.now in
    let i = c.loop-member.member-index in
    let m = c.member-item.result in
    let kind = (member_of_view m).kind in
    let below : i < length members = omega arith in
    let known = has_class c.args.classes members i m c.member-item.is below c.requires.classes in
    let whole = c.loop-member.invariant.whole in
    let within : m.class < length c.loop-member.own.items = omega (arith, known, whole) in
    record {
      made = one_member_more members i m c.loop-member.own.items c.loop-member.field c.loop-member.routine c.number_of_next_field-field.result c.number_of_next_routine-routine.result c.index_mut.result.now c.add.new.self
          c.member-item.is below within c.index_mut.ensures.value c.in_ok-add.ensures c.number_of_next_field-field.ensures c.number_of_next_routine-routine.ensures c.loop-member.invariant.made;
      whole = length-set c.loop-member.own.items m.class c.add.new.self ∙ whole;
      fields = next_fields c.loop-member.field c.number_of_next_field-field.result i kind c.number_of_next_field-field.ensures c.loop-member.invariant.fields;
      routines = next_routines c.loop-member.routine c.number_of_next_routine-routine.result i kind c.number_of_next_routine-routine.ensures c.loop-member.invariant.routines;
    }

pub returns : goal.returns
returns c =
    let ms = map member_of_view c.args.members.now in
    let own = c.loop-member.own.items in
    at_last own c.args.classes c.loop-member.field c.loop-member.routine ms c.loop-member.invariant.whole
    (subst (λ (l : List Declared). IsMade own c.loop-member.field c.loop-member.routine l ms) (at_drop_all (map member_of_view) c.args.members.now c.loop-member.member-index c.loop-member-test.false) c.loop-member.invariant.made)
