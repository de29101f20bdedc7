use Rattle.std.proofs.Common.{arith, ap, length, option_map, ◌-◌, ◌≤◌}
use Rattle.jd_jclasses.specs.Classes.{declared_classes}
use Rattle.jd_jinfos.specs.Views.{class_info_view}
use Rattle.jd_jml_refusals.specs.First.{refused_view}
use Rattle.jd_check.proofs.Walking.{class_count}
use Rattle.jd_jml_refusals.proofs.Walking.{ends_there, goes_on, is_nothing, none_left}
use Rattle.jd_jml_refusals.proofs.refused.judge_classes.Goals as goal

pub returns-then-is_some : goal.returns-then-is_some
returns-then-is_some g c = λ units tables.
    ends_there (g.D.Declares.declarations c.args.d.now) units c.loop-class.class (class_info_view c.class-info.result.now) c.in_ok-refused.refused c.is_some.result
    c.loop-class.auto.class (c.class-info.ensures units tables) c.is_some.ensures c.if-is_some.true c.in_ok-refused.ensures (c.loop-class.invariant units tables)

pub loop-class-preserved : goal.loop-class-preserved
loop-class-preserved g c = λ units tables.
    let none = is_nothing c.in_ok-refused.refused c.is_some.result c.is_some.ensures c.if-is_some.false in
    goes_on (g.D.Declares.declarations c.args.d.now) units c.loop-class.class (class_info_view c.class-info.result.now) (option_map refused_view c.in_ok-refused.refused)
    c.loop-class.auto.class (c.class-info.ensures units tables) c.in_ok-refused.ensures (ap (option_map refused_view) none) (c.loop-class.invariant units tables)

pub returns : goal.returns
returns g c = λ units tables.
    let few : length (declared_classes units) ≤ c.loop-class.class - 10 = omega (arith, c.loop-class-test.false, c.class_count-class-end.ensures, class_count units c.args.classes.now tables) in
    none_left (g.D.Declares.declarations c.args.d.now) units c.loop-class.class few (c.loop-class.invariant units tables)
