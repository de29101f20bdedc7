use Rattle.std.proofs.Common.{◌≡◌, ◌-◌, suc, arith, map}
use Rattle.jd_jclasses.specs.Classes.{parents}
use Rattle.jd_jinfos.specs.Views.{method_number}
use Rattle.jd_class_members.specs.Along.{constructor_of}
use Rattle.jd_class_members.proofs.Up.{nothing_up, class_more}
use Rattle.jd_class_members.proofs.along.+add_constructors.Goals as goal

pub returns-in-None : goal.returns-in-None
returns-in-None t c = λ units tables. nothing_up (constructor_of units) (parents units) c.args.left c.args.class (map method_number c.args.to.now.items) c.in-None.is

pub returns-in_ok-add_constructors-in-Some : goal.returns-in_ok-add_constructors-in-Some
returns-in_ok-add_constructors-in-Some t c = λ units tables.
    let more : c.args.left ≡ suc (c.args.left - 1) = omega (arith, c.if-left-eq0.false) in
    class_more (constructor_of units) (parents units) c.add_constructor.result c.args.left (c.args.left - 1) c.args.class c.extended.result c.in-Some.c
    (map method_number c.args.to.now.items) (map method_number c.add_constructors.new.to.items) (map method_number c.add_constructor.new.to.items)
    more c.in-Some.is (c.extended.ensures.parent units tables) (c.in_ok-add_constructors-in-Some.ensures units tables) (c.add_constructor.ensures units tables)
