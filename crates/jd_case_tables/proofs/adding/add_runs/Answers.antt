use Rattle.jd_case_tables.specs.Running.{cases_of_run, run_view}
use Rattle.jd_case_tables.proofs.Numbering.{case_told_at, run_more_at, runs_made}
use Rattle.jd_case_tables.proofs.adding.add_runs.Goals as goal

pub loop-run-preserved : goal.loop-run-preserved
loop-run-preserved g c = λ units p fields tables trees known listed.
    let d = g.D.Declares.declarations c.args.rows.now.declared.now in
    run_more_at p fields (cases_of_run units d) run_view c.args.runs.now c.loop-run.run-index _ _ _ _ c.loop-run-test.true
    (c.in_ok-add_run.ensures.made units p fields tables trees known listed) (c.loop-run.invariant units p fields tables trees known listed)

pub returns-in_err-add_run-clause-why : goal.returns-in_err-add_run-clause-why
returns-in_err-add_run-clause-why g c = λ units p fields tables trees known listed.
    let d = g.D.Declares.declarations c.args.rows.now.declared.now in
    case_told_at c.args.rows.now.limit p (cases_of_run units d) run_view c.args.runs.now c.loop-run.run-index _ c.loop-run-test.true c.from_residual.result _ c.from_residual.ensures.1
    (c.in_err-add_run.ensures.why units p fields tables trees known listed)

pub returns-clause-made : goal.returns-clause-made
returns-clause-made g c = λ units p fields tables trees known listed.
    let d = g.D.Declares.declarations c.args.rows.now.declared.now in
    runs_made p fields (cases_of_run units d) run_view c.args.runs.now c.loop-run.run-index _ _ c.loop-run-test.false (c.loop-run.invariant units p fields tables trees known listed)
