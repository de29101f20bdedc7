use Rattle.std.proofs.Common.{◌≡◌, ◌-◌, suc, arith, map}
use Rattle.jd_jclasses.specs.Classes.{parents}
use Rattle.jd_programs.specs.Members.{declared_as}
use Rattle.jd_jml_written.specs.Views.{case_view}
use Rattle.jd_jml_cases.specs.Trees.{cases_by, tree_view}
use Rattle.jd_jml_cases.proofs.Adding.{none_up, one_class_more}
use Rattle.jd_jml_cases.proofs.inherited.+add_inherited.Goals as goal

pub returns-in-None : goal.returns-in-None
returns-in-None t c = λ units tables. none_up (cases_by (map tree_view c.args.p.trees.now)) (declared_as units c.args.name.now) (parents units) c.args.left c.args.class (map case_view c.args.made.now.items) c.in-None.is

pub returns-in_ok-add_inherited-in-Some : goal.returns-in_ok-add_inherited-in-Some
returns-in_ok-add_inherited-in-Some t c = λ units tables.
    let more : c.args.left ≡ suc (c.args.left - 1) = omega (arith, c.if-left-eq0.false) in
    one_class_more (cases_by (map tree_view c.args.p.trees.now)) (declared_as units c.args.name.now) (parents units) c.add_declared.result c.args.left (c.args.left - 1) c.args.class c.extended.result c.in-Some.c
    (map case_view c.args.made.now.items) (map case_view c.add_inherited.new.made.items) (map case_view c.add_declared.new.made.items)
    more c.in-Some.is (c.extended.ensures.parent units tables) (c.in_ok-add_inherited-in-Some.ensures units tables) (c.add_declared.ensures units tables)
