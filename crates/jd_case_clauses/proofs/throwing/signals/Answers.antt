use Rattle.jd_jml_formulas.specs.Spellings.{spelling_view}
use Rattle.jd_jml_known.specs.Scopes.{known_of}
use Rattle.jd_case_clauses.specs.Signals.{signalled_in}
use Rattle.jd_case_clauses.proofs.Large.{all_made, one_more, passed_on}
use Rattle.jd_case_clauses.proofs.throwing.signals.Goals as goal

pub returns-in_err-add_signal-clause-why : goal.returns-in_err-add_signal-clause-why
returns-in_err-add_signal-clause-why g c = λ p fields.
    passed_on c.args.m.now.limit (signalled_in p (g.D.Declares.declarations c.args.m.now.sight.declared.now) c.args.m.now.sight.class c.args.m.now.sight.result (spelling_view c.args.m.now.spelled.now) (known_of c.args.names.now))
    c.args.cs.now c.loop-c.c-index c.c-item.result c.loop-c-test.true c.c-item.is c.from_residual.result _ c.from_residual.ensures.1 (c.in_err-add_signal.ensures.why p fields)

pub loop-c-preserved : goal.loop-c-preserved
loop-c-preserved g c = λ p fields.
    one_more c.args.m.now.limit (signalled_in p (g.D.Declares.declarations c.args.m.now.sight.declared.now) c.args.m.now.sight.class c.args.m.now.sight.result (spelling_view c.args.m.now.spelled.now) (known_of c.args.names.now))
    c.args.cs.now c.loop-c.c-index c.c-item.result _ _ _ c.loop-c-test.true c.c-item.is (c.in_ok-add_signal.ensures.made p fields) (c.loop-c.invariant p fields)

pub returns-clause-made : goal.returns-clause-made
returns-clause-made g c = λ p fields.
    all_made c.args.m.now.limit (signalled_in p (g.D.Declares.declarations c.args.m.now.sight.declared.now) c.args.m.now.sight.class c.args.m.now.sight.result (spelling_view c.args.m.now.spelled.now) (known_of c.args.names.now))
    c.args.cs.now c.loop-c.c-index _ _ c.loop-c-test.false (c.loop-c.invariant p fields)
