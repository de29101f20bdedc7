use Rattle.std.proofs.Common.{◌≡◌, ◌-◌, suc, arith, map}
use Rattle.jd_jclasses.specs.Classes.{parents}
use Rattle.jd_row_makers.specs.Heads.{field_view}
use Rattle.jd_case_tables.specs.Fielded.{own_sorted}
use Rattle.jd_case_tables.proofs.Up.{nothing_up, class_more}
use Rattle.jd_case_tables.proofs.fields.+add_along.Goals as goal

pub returns-in-None : goal.returns-in-None
returns-in-None g t c = λ units tables. nothing_up (own_sorted units (g.D.Declares.declarations c.args.d.now)) (parents units) c.args.left c.args.class (map field_view c.args.to.now.items) c.in-None.is

pub returns-in_ok-add_along-in-Some : goal.returns-in_ok-add_along-in-Some
returns-in_ok-add_along-in-Some g t c = λ units tables.
    let more : c.args.left ≡ suc (c.args.left - 1) = omega (arith, c.if-left-eq0.false) in
    class_more (own_sorted units (g.D.Declares.declarations c.args.d.now)) (parents units) c.add_own.result c.args.left (c.args.left - 1) c.args.class c.extended.result c.in-Some.c
    (map field_view c.args.to.now.items) (map field_view c.add_along.new.to.items) (map field_view c.add_own.new.to.items)
    more c.in-Some.is (c.extended.ensures.parent units tables) (c.in_ok-add_along-in-Some.ensures units tables) (c.add_own.ensures units tables)
