use Rattle.std.proofs.Common.{◌≡◌, IfOk, List, map, subst}
use Rattle.jd_syntax.specs.JavaTrees.{unit_view}
use Rattle.jd_jinfos.specs.Infos.{PlainClassInfo}
use Rattle.jd_jinfos.specs.Stages.{head_view}
use Rattle.jd_jinfos.specs.Views.{class_info_view, own_view}
use Rattle.jd_jinfos.proofs.Together.{all_classes}
use Rattle.jd_jinfos.proofs.classes.class_infos.Goals as goal

pub returns : goal.returns
returns c =
    subst (λ (l : List PlainClassInfo). IfOk c.put_together.result (λ v. map class_info_view v.items ≡ l))
    (all_classes (map unit_view c.args.units.items) (map head_view c.in_ok-heads.heads.items) c.args.parents.now (map own_view c.args.own.items) c.in_ok-heads.ensures c.requires.parents c.requires.own)
    c.put_together.ensures
