use Rattle.jd_row_data.proofs.Additions.{added_is}
use Rattle.jd_row_data.proofs.growing.added.Goals as goal

pub returns : goal.returns
returns g c = added_is c.args.items c.with.result c.args.item c.in_ok-items.items c.in_ok-items.item c.with.ensures c.in_ok-items.ensures.0 c.in_ok-items.ensures.1
