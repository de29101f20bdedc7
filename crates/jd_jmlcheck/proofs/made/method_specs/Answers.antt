use Rattle.std.proofs.Common.{[], ap, map, ◌∙◌, ◌∷◌}
use Rattle.std.proofs.lemmas.List.{map-append}
use Rattle.jd_jmlcheck.specs.Specified.{method_spec}
use Rattle.jd_jmlcheck.specs.Views.{method_spec_view}
use Rattle.jd_jmlcheck.proofs.Listing.{one_more_number}
use Rattle.jd_jmlcheck.proofs.made.method_specs.Goals as goal

pub loop-m-preserved : goal.loop-m-preserved
loop-m-preserved c = λ units tables trees.
    one_more_number (method_spec units) c.loop-m.m (map method_spec_view c.loop-m.made.items) (map method_spec_view c.put.new.items.items) (method_spec_view c.in_ok-spec_at.field-0)
    (c.loop-m.invariant units tables trees) (c.in_ok-spec_at.ensures units tables trees)
    (ap (map method_spec_view) c.in_ok-put.ensures ∙ map-append method_spec_view c.loop-m.made.items (c.in_ok-spec_at.field-0 ∷ []))
