use Rattle.std.proofs.Common.{arith}
use Rattle.jd_twords.proofs.Numbered.{no_row, row_there}
use Rattle.jd_twords.proofs.forms.form_in.Goals as goal

pub returns-then-number-rows : goal.returns-then-number-rows
returns-then-number-rows g c = row_there c.args.rows.now c.args.number _ _ _ c.if-number-rows.true

pub returns-else-number-rows : goal.returns-else-number-rows
returns-else-number-rows g c = no_row c.args.rows.now c.args.number (omega (arith, c.if-number-rows.false))
