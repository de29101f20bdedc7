use Rattle.std.proofs.Common.{[], ap, map, refl, ◌∙◌, ◌∷◌}
use Rattle.std.proofs.lemmas.List.{map-append}
use Rattle.jd_jinfos.specs.Infos.{method_infos}
use Rattle.jd_jinfos.specs.Views.{method_info_view}
use Rattle.jd_declared.specs.Named.{value_at}
use Rattle.jd_declared.specs.Owned.{signature_by}
use Rattle.jd_declared.specs.Told.{routine_view}
use Rattle.jd_declared.proofs.Listing.{one_listed}
use Rattle.jd_declared.proofs.building.routines_of.Goals as goal

pub loop-method-preserved : goal.loop-method-preserved
loop-method-preserved c = λ units tables.
    one_listed (signature_by (value_at c.args.numbers.now)) (method_infos units) (map (signature_by (value_at c.args.numbers.now)) (method_infos units)) (map routine_view c.push.new.self.items) _
    c.loop-method.method (method_info_view c.method.result.now) (routine_view c.in_ok-routine_of.field-0) refl
    (c.method.ensures units tables) c.in_ok-routine_of.ensures (c.loop-method.invariant units tables)
    (ap (map routine_view) c.in_ok-push.ensures.items ∙ map-append routine_view c.loop-method.routines.items (c.in_ok-routine_of.field-0 ∷ []))
