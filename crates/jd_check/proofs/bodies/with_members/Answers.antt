use Rattle.std.proofs.Common.{◌++◌, map, refl, subst, arith}
use Rattle.jd_syntax.specs.JavaTrees.{member_view}
use Rattle.jd_check.specs.Building.{GivesBodies, class_bodies, member_bodies}
use Rattle.jd_check.proofs.Gathering.{members_end, next_member}
use Rattle.jd_check.proofs.bodies.with_members.Goals as goal

pub loop-member-init : goal.loop-member-init
loop-member-init g c = λ bs h. (bs, h, refl)

pub loop-member-preserved : goal.loop-member-preserved
loop-member-preserved g c = λ bs h.
    let i = c.loop-member.invariant bs h in (
      i.0 ++ member_bodies (g.D.Declares.declarations c.args.d.now) c.args.class (member_view c.member-item.result),
      c.with_member-bodies.ensures i.0 i.1,
      next_member (g.D.Declares.declarations c.args.d.now) c.args.class c.args.members.now c.loop-member.member-index c.member-item.result i.0 (bs ++ class_bodies (g.D.Declares.declarations c.args.d.now) c.args.class (map member_view c.args.members.now)) c.loop-member-test.true c.member-item.is i.2,
    )

pub returns : goal.returns
returns g c = λ bs h.
    let i = c.loop-member.invariant bs h in
    subst (λ xs. GivesBodies c.loop-member.bodies xs) (members_end (g.D.Declares.declarations c.args.d.now) c.args.class c.args.members.now c.loop-member.member-index i.0 (bs ++ class_bodies (g.D.Declares.declarations c.args.d.now) c.args.class (map member_view c.args.members.now)) (omega (arith, c.loop-member-test.false)) i.2) i.1
