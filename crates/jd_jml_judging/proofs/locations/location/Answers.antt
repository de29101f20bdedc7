use Rattle.std.proofs.Common.{ap}
use Rattle.jd_syntax.specs.SpecTrees.{location_form, location_view, spec_view}
use Rattle.jd_jml_judging.specs.Contexts.{context_view}
use Rattle.jd_jml_judging.specs.Visible.{visible}
use Rattle.jd_jml_judging.proofs.Ranges.{ranged}
use Rattle.jd_jml_judging.proofs.locations.location.Goals as goal

pub returns-in-Range : goal.returns-in-Range
returns-in-Range g c =
    ranged (g.D.Declares.declarations c.args.w.now.declared.now) (context_view c.args.w.now.context) (visible c.args.names.now) (location_view c.args.l.now) c.args.l.now.at (spec_view c.in-Range.a) (spec_view c.in-Range.i) (spec_view c.in-Range.j)
    c.part-array-in-Range.result.0 c.part-first.result.0 c.part-in-Range.result.0 c.part-array-in-Range.result.1 c.part-first.result.1 c.part-in-Range.result.1 c.range_gives.result (ap (location_form c.args.l.now.at) c.in-Range.is)
    c.part-array-in-Range.ensures.at c.part-array-in-Range.ensures.given c.part-first.ensures.at c.part-first.ensures.given c.part-in-Range.ensures.at c.part-in-Range.ensures.given c.range_gives.ensures
