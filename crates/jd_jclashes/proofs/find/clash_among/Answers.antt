use Rattle.std.proofs.Common.{◌<◌, List, length, sym, ap, ◌∙◌, subst, arith}
use Rattle.std.proofs.lemmas.List.{length-map}
use Rattle.std.specs.List.{slice_get}
use Rattle.jd_jclasses.specs.Members.{Declared}
use Rattle.jd_jlists.specs.Views.{member_of_view}
use Rattle.jd_jclashes.specs.Clashes.{ClashRefuses}
use Rattle.jd_jclashes.proofs.Lists.{viewed_at}
use Rattle.jd_jclashes.proofs.Refusing.{all_stand, found_inside, reason_at, refused}
use Rattle.jd_jclashes.proofs.find.clash_among.Goals as goal

pub returns-in-Some : goal.returns-in-Some
returns-in-Some c units same same_ups stand =
    let m = member_of_view c.index-members-i.result in
    let found = c.in_ok-i.ensures.found units same same_ups stand in
    let listed : c.in-Some.i < length c.args.members.now =
    omega (
      arith,
      found_inside units (reason_at c.loop-reason.reason-index) c.in_ok-i.field-0 c.in-Some.i found c.in-Some.is,
      ap length same,
      length-map c.args.members.now member_of_view,
    ) in
    let there = sym (ap (λ (l : List Declared). slice_get l c.in-Some.i) same) ∙ viewed_at member_of_view c.args.members.now c.in-Some.i c.index-members-i.result c.index-members-i.is listed in
    subst (ClashRefuses units) (sym c.clash.ensures)
    (refused units c.loop-reason.reason-index c.in-Some.i m c.in_ok-i.field-0 c.loop-reason-test.true stand (c.loop-reason.invariant units same same_ups stand) found c.in-Some.is there)

pub returns : goal.returns
returns c units same same_ups stand = all_stand units c.loop-reason.reason-index c.loop-reason-test.false (c.loop-reason.invariant units same same_ups stand)
