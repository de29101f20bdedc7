use Rattle.std.proofs.Common.{map, subst}
use Rattle.jd_jml_cases.specs.Laws.{contract_of_case}
use Rattle.jd_jml_written.specs.Views as views
use Rattle.jd_case_tables.specs.Placed.{MarksStand}
use Rattle.jd_case_tables.proofs.Lists.{opened}
use Rattle.jd_case_tables.proofs.Numbering.{contract_told, row_more, rows_made}
use Rattle.jd_case_tables.proofs.adding.add_cases.Goals as goal

pub loop-case-preserved : goal.loop-case-preserved
loop-case-preserved g c = λ units p fields b tables trees known marks names.
    let d = g.D.Declares.declarations c.args.rows.now.declared.now in
    let i = c.loop-case.invariant units p fields b tables trees known marks names in
    let at = opened c.args.cases.now c.loop-case.case-index c.case-item.result c.loop-case-test.true c.case-item.is in
    let now = subst (λ l. MarksStand units (map views.case_view l)) at i.0 in (
      now.1,
      row_more p fields b c.args.run.class.0 c.args.run.method.0 (contract_of_case units d) views.case_view c.args.cases.now c.loop-case.case-index c.case-item.result _ _ _ _ _ c.loop-case-test.true c.case-item.is
          (c.in_ok-number.ensures.made units p fields b tables trees known (now.0, tt) names) (c.in_ok-number.ensures.number units tables trees) i.1,
    )

pub returns-in_err-number-clause-why : goal.returns-in_err-number-clause-why
returns-in_err-number-clause-why g c = λ units p fields b tables trees known marks names.
    let d = g.D.Declares.declarations c.args.rows.now.declared.now in
    let i = c.loop-case.invariant units p fields b tables trees known marks names in
    let at = opened c.args.cases.now c.loop-case.case-index c.case-item.result c.loop-case-test.true c.case-item.is in
    let now = subst (λ l. MarksStand units (map views.case_view l)) at i.0 in
    contract_told c.args.rows.now.limit p b (contract_of_case units d) views.case_view c.args.cases.now c.loop-case.case-index c.case-item.result c.loop-case-test.true c.case-item.is c.from_residual.result _ c.from_residual.ensures.1
    (c.in_err-number.ensures.why units p fields b tables trees known (now.0, tt) names)

pub returns-clause-made : goal.returns-clause-made
returns-clause-made g c = λ units p fields b tables trees known marks names.
    let d = g.D.Declares.declarations c.args.rows.now.declared.now in
    let i = c.loop-case.invariant units p fields b tables trees known marks names in
    rows_made p fields b c.args.run.class.0 c.args.run.method.0 (contract_of_case units d) views.case_view c.args.cases.now c.loop-case.case-index _ _ _ c.loop-case-test.false i.1
