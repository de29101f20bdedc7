use Rattle.jd_body_tables.specs.Invariants.{invariant_meant}
use Rattle.jd_body_tables.proofs.InvariantRows.{all_made, one_more, passed_on}
use Rattle.jd_body_tables.proofs.invariants.formulas.Goals as goal

pub returns-in_err-add-clause-why : goal.returns-in_err-add-clause-why
returns-in_err-add-clause-why g c = λ p fields.
    passed_on (invariant_meant p (g.D.Declares.declarations c.args.m.now.sight.declared.now) c.args.m.now.sight.class) c.args.m.now.limit
    c.args.es.now c.loop-e.e-index c.e-item.result c.loop-e-test.true c.e-item.is c.from_residual.result _ c.from_residual.ensures.1 (c.in_err-add.ensures.why c.args.m.now.limit _ (c.made.ensures.why p fields))

pub loop-e-preserved : goal.loop-e-preserved
loop-e-preserved g c = λ p fields.
    one_more (invariant_meant p (g.D.Declares.declarations c.args.m.now.sight.declared.now) c.args.m.now.sight.class)
    c.args.es.now c.loop-e.e-index c.e-item.result _ _ _ c.loop-e-test.true c.e-item.is (c.in_ok-add.ensures.made _ (c.made.ensures.made p fields)) (c.loop-e.invariant p fields)

pub returns-clause-made : goal.returns-clause-made
returns-clause-made g c = λ p fields.
    all_made (invariant_meant p (g.D.Declares.declarations c.args.m.now.sight.declared.now) c.args.m.now.sight.class)
    c.args.es.now c.loop-e.e-index _ _ c.loop-e-test.false (c.loop-e.invariant p fields)
