use Rattle.std.proofs.Common.{arith}
use Rattle.jd_body_tables.proofs.BodyRows.{as_many, row_more, rows_end}
use Rattle.jd_body_tables.proofs.bodies.body_rows.Goals as goal

pub row_at-requires : goal.row_at-requires
row_at-requires c = let many = as_many c.requires.0 c.requires.1 c.args.classes.now c.args.bodies.now c.requires.2 c.requires.3 in omega (arith, many, c.loop-number-test.true)

pub loop-number-preserved : goal.loop-number-preserved
loop-number-preserved c = λ units d tables are.
    row_more units d c.args.bodies.now c.loop-number.number c.index-bodies-number.result _ c.in_ok-row_at.field-0 _ _ are c.loop-number-test.true c.index-bodies-number.is (c.in_ok-row_at.ensures units tables) c.in_ok-put.ensures (c.loop-number.invariant units d tables are)

pub returns : goal.returns
returns c = λ units d p invariants tables are. rows_end units d c.args.bodies.now c.loop-number.number _ _ are c.loop-number-test.false (c.loop-number.invariant units d tables are)
