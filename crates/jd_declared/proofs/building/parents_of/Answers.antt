use Rattle.std.proofs.Common.{map, refl}
use Rattle.jd_jclasses.specs.Classes.{parents}
use Rattle.jd_jinfos.specs.Infos.{PlainClassInfo, class_infos}
use Rattle.jd_jinfos.specs.Views.{class_info_view}
use Rattle.jd_declared.proofs.Listing.{one_listed, parents_listed}
use Rattle.jd_declared.proofs.building.parents_of.Goals as goal

pub loop-class-preserved : goal.loop-class-preserved
loop-class-preserved c = λ units tables.
    one_listed (λ (i : PlainClassInfo). i.parent) (class_infos units) (parents units) _ _ c.loop-class.class (class_info_view c.class.result.now) c.class_id.result (parents_listed units)
    (c.class.ensures units tables) c.class_id.ensures (c.loop-class.invariant units tables) c.in_ok-push.ensures.items
