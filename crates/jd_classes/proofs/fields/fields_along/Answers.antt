use Rattle.std.proofs.Common.{ap, sym, ◌∙◌}
use Rattle.jd_jinfos.specs.declared.info.ClassInfo.{ClassInfo}
use Rattle.jd_classes.proofs.Lineages.{one_more_class}
use Rattle.jd_classes.proofs.fields.fields_along.Goals as goal

pub loop-place-preserved : goal.loop-place-preserved
loop-place-preserved c =
    one_more_class c.args.infos.now c.args.classes.now c.loop-place.place c.index-infos-classes.result c.loop-place.fields.items c.extend_from_slice.new.self.items c.deref.result.now _
    c.loop-place-test.true c.loop-place.auto.place c.requires c.index-infos-classes.is (c.deref.ensures.value ∙ ap (λ (i : ClassInfo). i.fields.items) (sym c.index-infos-classes.is)) c.in_ok-extend_from_slice.ensures.items c.loop-place.invariant
