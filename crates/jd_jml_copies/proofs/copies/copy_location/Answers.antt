use Rattle.std.proofs.Common.{ap, sym}
use Rattle.jd_syntax.specs.SpecTrees.{location_form, spec_view}
use Rattle.jd_jml_copies.proofs.Viewed.{copied_location}
use Rattle.jd_jml_copies.proofs.copies.copy_location.Goals as goal

pub returns-in-Element : goal.returns-in-Element
returns-in-Element c =
    copied_location c.element.result _ _ (c.element.ensures (spec_view c.in-Element.a) (spec_view c.in-Element.i) c.copy_expression-in-Element.ensures c.copy_expression-in-Element-2.ensures) (sym (ap (location_form c.args.l.now.at) c.in-Element.is))

pub returns-in-Range : goal.returns-in-Range
returns-in-Range c =
    copied_location c.range.result _ _ (c.range.ensures (spec_view c.in-Range.a) (spec_view c.in-Range.i) (spec_view c.in-Range.j) c.copy_expression-in-Range.ensures c.copy_expression-in-Range-2.ensures c.copy_expression-in-Range-3.ensures) (sym (ap (location_form c.args.l.now.at) c.in-Range.is))
