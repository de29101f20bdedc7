use Rattle.std.proofs.Common.{◌<◌, ap, map, option_map, subst}
use Rattle.jd_jinfos.specs.Views.{class_info_view, method_number}
use Rattle.jd_jml_cases.proofs.Listing.{class_count}
use Rattle.jd_class_members.proofs.Up.{constructor_at, none_listed, some_listed}
use Rattle.jd_class_members.proofs.along.add_constructor.Goals as goal

pub returns-in-None : goal.returns-in-None
returns-in-None c = λ units tables.
    none_listed (map method_number c.args.to.now.items) _ _ (ap (option_map method_number) c.in-None.is)
    (constructor_at units c.args.class (class_info_view c.class.result.now) (c.class.ensures units tables) (subst (λ n. c.args.class < n) (class_count units c.args.classes.now tables) c.requires))

pub returns-in-Some : goal.returns-in-Some
returns-in-Some c = λ units tables.
    some_listed c.put.result c.args.to.now.items c.put.new.items.items c.in-Some.m _ _ (ap (option_map method_number) c.in-Some.is)
    (constructor_at units c.args.class (class_info_view c.class.result.now) (c.class.ensures units tables) (subst (λ n. c.args.class < n) (class_count units c.args.classes.now tables) c.requires))
    c.put.ensures
