use Rattle.std.proofs.Common.{◌≡◌, ◌-◌, suc, arith, map}
use Rattle.jd_jclasses.specs.Classes.{parents}
use Rattle.jd_jinfos.specs.Views.{method_number}
use Rattle.jd_programs.specs.Members.{members_from}
use Rattle.jd_class_members.proofs.Up.{nothing_up, class_more}
use Rattle.jd_class_members.proofs.along.+add_members.Goals as goal

pub returns-in-None : goal.returns-in-None
returns-in-None t c = λ units tables. nothing_up (members_from units c.args.of) (parents units) c.args.left c.args.class (map method_number c.args.to.now.items) c.in-None.is

pub returns-in_ok-add_members-in-Some : goal.returns-in_ok-add_members-in-Some
returns-in_ok-add_members-in-Some t c = λ units tables.
    let more : c.args.left ≡ suc (c.args.left - 1) = omega (arith, c.if-left-eq0.false) in
    class_more (members_from units c.args.of) (parents units) c.add_members_of.result c.args.left (c.args.left - 1) c.args.class c.extended.result c.in-Some.c
    (map method_number c.args.to.now.items) (map method_number c.add_members.new.to.items) (map method_number c.add_members_of.new.to.items)
    more c.in-Some.is (c.extended.ensures.parent units tables) (c.in_ok-add_members-in-Some.ensures units tables) (c.add_members_of.ensures units tables)
