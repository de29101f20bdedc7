use Rattle.std.proofs.Common.{List, ap, map, option_map, ℕ}
use Rattle.std.specs.List.{slice_get}
use Rattle.jd_base.specs.declared.ids.MethodId.{MethodId}
use Rattle.jd_jinfos.specs.Infos.{method_infos}
use Rattle.jd_jinfos.specs.Views.{method_number}
use Rattle.jd_declared.specs.Owned.{method_pair, methods_in}
use Rattle.jd_declared.proofs.Naming.{all_given, next_listed, past_all}
use Rattle.jd_declared.proofs.building.own_methods.Goals as goal

pub loop-method-preserved : goal.loop-method-preserved
loop-method-preserved c = λ units tables q.
    next_listed (λ m. option_map (method_pair m) (slice_get (method_infos units) m)) method_number c.args.methods.now c.loop-method.method-index _ _ _ _ q
    c.loop-method-test.true (c.loop-method.invariant units tables q) (c.in_ok-add_method.ensures units tables q)

pub returns : goal.returns
returns c = λ units tables q.
    all_given _ _ _ q (ap (λ (l : List MethodId). methods_in (method_infos units) (map method_number l)) (past_all c.args.methods.now c.loop-method.method-index c.loop-method-test.false)) (c.loop-method.invariant units tables q)
