use Rattle.jd_body_tables.proofs.InvariantRows.{row_more, row_passed_on, rows_end}
use Rattle.jd_body_tables.proofs.invariants.rows.Goals as goal

pub returns-in_err-add_row-clause-why : goal.returns-in_err-add_row-clause-why
returns-in_err-add_row-clause-why g c = λ p fields.
    row_passed_on p (g.D.Declares.declarations c.args.w.now.declared.now) c.args.w.now.limit
    c.args.all.now c.loop-number.number c.index-all-number.result c.deref.result.now c.loop-number-test.true c.index-all-number.is c.deref.ensures.value c.from_residual.result _ c.from_residual.ensures.1 (c.in_err-add_row.ensures.why c.args.w.now.limit _ (c.row.ensures.why p fields))

pub loop-number-preserved : goal.loop-number-preserved
loop-number-preserved g c = λ p fields.
    row_more p (g.D.Declares.declarations c.args.w.now.declared.now)
    c.args.all.now c.loop-number.number c.index-all-number.result c.deref.result.now _ _ _ c.loop-number-test.true c.index-all-number.is c.deref.ensures.value (c.in_ok-add_row.ensures.made _ (c.row.ensures.made p fields)) (c.loop-number.invariant p fields)

pub returns-clause-made : goal.returns-clause-made
returns-clause-made g c = λ p fields.
    rows_end p (g.D.Declares.declarations c.args.w.now.declared.now) c.args.all.now c.loop-number.number _ _ c.loop-number-test.false (c.loop-number.invariant p fields)
