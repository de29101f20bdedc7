use Rattle.std.proofs.Common.{[], ap, map, ◌∙◌, ◌∷◌}
use Rattle.std.proofs.lemmas.List.{map-append}
use Rattle.jd_jinfos.specs.Infos.{class_infos}
use Rattle.jd_jinfos.specs.Views.{class_info_view}
use Rattle.jd_jml_cases.proofs.Listing.{one_listed}
use Rattle.jd_jmlcheck.specs.Specified.{class_spec}
use Rattle.jd_jmlcheck.specs.Views.{invariants_view}
use Rattle.jd_jmlcheck.proofs.made.class_specs.Goals as goal

pub loop-class-preserved : goal.loop-class-preserved
loop-class-preserved c = λ units tables.
    one_listed class_spec (class_infos units) (map invariants_view c.put.new.items.items) (map invariants_view c.loop-class.made.items) c.loop-class.class (class_info_view c.class.result.now) (invariants_view c.in_ok-class_spec.field-0)
    (c.class.ensures units tables) c.in_ok-class_spec.ensures (c.loop-class.invariant units tables)
    (ap (map invariants_view) c.in_ok-put.ensures ∙ map-append invariants_view c.loop-class.made.items (c.in_ok-class_spec.field-0 ∷ []))
