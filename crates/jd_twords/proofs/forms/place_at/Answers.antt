use Rattle.jd_twords.proofs.Parts.{there, past}
use Rattle.std.proofs.Common.{arith}
use Rattle.jd_twords.proofs.forms.place_at.Goals as goal

pub returns-then-number-places : goal.returns-then-number-places
returns-then-number-places c = there c.args.places.now c.args.number _ _ c.if-number-places.true

pub returns-else-number-places : goal.returns-else-number-places
returns-else-number-places c = past c.args.places.now c.args.number _ (omega (arith, c.if-number-places.false))
