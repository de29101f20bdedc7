use Rattle.jd_jml_known.specs.Scopes.{visible}
use Rattle.jd_jml_formulas.specs.Spellings.{spelling_view, when_view}
use Rattle.jd_jml_formulas.proofs.Sets.{range_told}
use Rattle.jd_jml_formulas.proofs.places.location.Goals as goal

pub returns-in-Range : goal.returns-in-Range
returns-in-Range g c = λ p h. range_told p (g.D.Declares.declarations c.args.m.now.sight.declared.now) c.args.m.now.sight.class c.args.m.now.sight.result (spelling_view c.args.m.now.spelled.now) (when_view c.args.t) (visible c.args.names.now) c.element_range.result c.args.l.now c.in-Range.a c.in-Range.i c.in-Range.j c.in-Range.is (c.element_range.ensures _ _ _ (c.part-array-in-Range.ensures p h) (c.part-first.ensures p h) (c.part-in-Range.ensures p h))
