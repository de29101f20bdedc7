use Rattle.std.proofs.Common.{List, ap, arith, length, map, ◌<◌, ◌∙◌}
use Rattle.jd_base.specs.declared.ids.MethodId.{MethodId}
use Rattle.jd_jclasses.specs.Classes.{parents}
use Rattle.jd_jinfos.specs.Infos.{PlainOwnMembers, field_infos, method_infos}
use Rattle.jd_jinfos.specs.Views.{class_info_view, method_number}
use Rattle.jd_declared.specs.Named.{first_named, value_at}
use Rattle.jd_declared.specs.Owned.{methods_in, methods_of, variables_in, variables_of}
use Rattle.jd_declared.proofs.Listing.{class_count, own_at}
use Rattle.jd_declared.proofs.Naming.{each_more, one_longer}
use Rattle.jd_declared.proofs.building.methods_of_each.Goals as goal

pub loop-class-preserved : goal.loop-class-preserved
loop-class-preserved c = record {
  count = one_longer _ _ _ c.loop-class.class c.in_ok-push.ensures.items c.loop-class.invariant.count;
  done = λ units tables q k lt.
      let within : c.loop-class.class < length (parents units) = omega (arith, c.loop-class-test.true, c.class_count-class-end.ensures, class_count units c.args.classes.now tables) in
      each_more c.loop-class.each.items c.push.new.self.items c.in_ok-own.own c.loop-class.class (methods_of units) q c.in_ok-push.ensures.items c.loop-class.invariant.count
      (c.loop-class.invariant.done units tables q)
      (c.in_ok-own.ensures units tables q ∙ ap (λ (l : List MethodId). first_named (methods_in (method_infos units) (map method_number l)) q) c.deref.ensures.value ∙ ap (λ (o : PlainOwnMembers). first_named (methods_in (method_infos units) o.methods) q) (own_at units c.loop-class.class (class_info_view c.class.result.now) (c.class.ensures units tables) within))
      k lt;
}
