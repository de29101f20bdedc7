use Rattle.jd_case_clauses.specs.Signals.{only_in}
use Rattle.jd_case_clauses.proofs.Large.{all_made, one_more, passed_on}
use Rattle.jd_case_clauses.proofs.throwing.signals_only.Goals as goal

pub returns-in_err-add_only-clause-why : goal.returns-in_err-add_only-clause-why
returns-in_err-add_only-clause-why g c = λ limit.
    passed_on limit (only_in (g.D.Declares.declarations c.args.d.now))
    c.args.cs.now c.loop-c.c-index c.c-item.result c.loop-c-test.true c.c-item.is c.from_residual.result _ c.from_residual.ensures.1 (c.in_err-add_only.ensures.why limit)

pub loop-c-preserved : goal.loop-c-preserved
loop-c-preserved g c =
    one_more 0 (only_in (g.D.Declares.declarations c.args.d.now))
    c.args.cs.now c.loop-c.c-index c.c-item.result _ _ _ c.loop-c-test.true c.c-item.is c.in_ok-add_only.ensures.made c.loop-c.invariant

pub returns-clause-made : goal.returns-clause-made
returns-clause-made g c =
    all_made 0 (only_in (g.D.Declares.declarations c.args.d.now))
    c.args.cs.now c.loop-c.c-index _ _ c.loop-c-test.false c.loop-c.invariant
