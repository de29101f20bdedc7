use Rattle.std.proofs.Common.{[], ◌-◌, ◌++◌, ◌≤◌, length, subst, arith}
use Rattle.jd_bodies.specs.Bodies.{bodies}
use Rattle.jd_jclasses.specs.Classes.{declared_classes}
use Rattle.jd_jinfos.specs.Views.{class_info_view}
use Rattle.jd_check.specs.Building.{GivesBodies, info_bodies}
use Rattle.jd_check.proofs.Gathering.{all_made, classes_begin, next_class}
use Rattle.jd_check.proofs.Walking.{class_count}
use Rattle.jd_check.proofs.bodies.all_bodies.Goals as goal

pub loop-class-init : goal.loop-class-init
loop-class-init g c = λ units tables. ([], c.no_bodies-bodies.ensures, classes_begin (g.D.Declares.declarations c.args.d.now) units)

pub loop-class-preserved : goal.loop-class-preserved
loop-class-preserved g c = λ units tables.
    let i = c.loop-class.invariant units tables in (
      i.0 ++ info_bodies (g.D.Declares.declarations c.args.d.now) c.loop-class.class (class_info_view c.class.result.now),
      c.with_class-bodies.ensures i.0 i.1,
      next_class (g.D.Declares.declarations c.args.d.now) units c.loop-class.class (class_info_view c.class.result.now) i.0 (bodies (g.D.Declares.declarations c.args.d.now) units) c.loop-class.auto.class (c.class.ensures units tables) i.2,
    )

pub returns : goal.returns
returns g c = λ units tables.
    let few : length (declared_classes units) ≤ c.loop-class.class - 10 = omega (arith, c.loop-class-test.false, c.class_count-class-end.ensures, class_count units c.args.classes.now tables) in
    let i = c.loop-class.invariant units tables in
    subst (λ bs. GivesBodies c.loop-class.bodies bs) (all_made (g.D.Declares.declarations c.args.d.now) units c.loop-class.class i.0 (bodies (g.D.Declares.declarations c.args.d.now) units) few i.2) i.1
