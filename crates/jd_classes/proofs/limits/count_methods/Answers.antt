use Rattle.std.proofs.Common.{◌≡◌, sym, ap, arith, ◌∙◌, ◌+◌, cond}
use Rattle.jd_jclasses.specs.Members.{is_method}
use Rattle.jd_jlists.specs.Views.{member_of_view}
use Rattle.jd_classes.proofs.Counting.{one_more}
use Rattle.jd_classes.proofs.limits.count_methods.Goals as goal
use Rattle.jd_classes.proofs.limits.count_methods.Goals.{then-is_method, else-is_method}

pub loop-member-preserved : goal.loop-member-preserved
loop-member-preserved c =
    let more = one_more member_of_view (λ m. is_method m.kind) c.args.members.now c.loop-member.member-index c.member-item.result c.is_method.result c.loop-member.count c.if-is_method.count c.loop-member-test.true c.member-item.is c.is_method.ensures c.loop-member.invariant.counted in
    let same : c.loop-member.count ≡ c.loop-member.count + 0 = omega arith in
    elim c.if-is_method.branch [
      | then-is_method w ↦ record { counted = more (w.count-is ∙ ap (λ b. c.loop-member.count + cond b 1 0) (sym w.if-is_method.true)); few = omega (arith, w.count-is, c.loop-member.invariant.few) }
      | else-is_method w ↦ record { counted = more (w.count-is ∙ (same ∙ ap (λ b. c.loop-member.count + cond b 1 0) (sym w.if-is_method.false))); few = omega (arith, w.count-is, c.loop-member.invariant.few) }
    ]
