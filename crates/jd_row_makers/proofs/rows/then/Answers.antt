use Rattle.jd_row_makers.proofs.Joined.{each_made}
use Rattle.jd_row_makers.proofs.rows.then.Goals as goal

pub returns : goal.returns
returns g c = each_made c.appended.result (λ v is. (c.in_ok-first.field-0, c.in_ok-first.was, is)) c.appended.ensures
