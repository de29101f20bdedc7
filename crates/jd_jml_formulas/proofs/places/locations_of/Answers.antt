use Rattle.std.proofs.Common.{arith, length, ◌-◌}
use Rattle.jd_jml_known.specs.Scopes.{visible}
use Rattle.jd_jml_formulas.specs.Spellings.{spelling_view, when_view}
use Rattle.jd_jml_formulas.proofs.Sets.{last_one, one_more, some_there}
use Rattle.jd_jml_formulas.proofs.places.locations_of.Goals as goal

pub loop-left-init : goal.loop-left-init
loop-left-init g c =
    let some = some_there (length c.args.ls.now) c.is_empty.result c.is_empty.ensures c.if-is_empty.false in
    (omega (arith, some), λ p h. last_one p (g.D.Declares.declarations c.args.m.now.sight.declared.now) c.args.m.now.sight.class c.args.m.now.sight.result (spelling_view c.args.m.now.spelled.now) (when_view c.args.t) (visible c.args.names.now) c.args.ls.now (length c.args.ls.now - 1) c.index-ls-left.result c.location-made.result (omega (arith, some)) c.index-ls-left.is (c.location-made.ensures p h))

pub loop-left-preserved : goal.loop-left-preserved
loop-left-preserved g c =
    (omega (arith, c.loop-left.invariant.0), λ p h. one_more p (g.D.Declares.declarations c.args.m.now.sight.declared.now) c.args.m.now.sight.class c.args.m.now.sight.result (spelling_view c.args.m.now.spelled.now) (when_view c.args.t) (visible c.args.names.now) c.args.ls.now c.loop-left.left c.index-ls-left-in-loop-left.result c.union-made.result c.loop-left-test.true c.loop-left.invariant.0 c.index-ls-left-in-loop-left.is (c.union-made.ensures _ _ (c.location.ensures p h) (c.loop-left.invariant.1 p h)))
