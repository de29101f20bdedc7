use Rattle.jd_jinfos.specs.Views.{method_info_view}
use Rattle.jd_check.specs.Building as resolved
use Rattle.jd_body_tables.proofs.BodyRows.{at_number}
use Rattle.jd_body_tables.proofs.bodies.row_at.Goals as goal

pub returns : goal.returns
returns c = λ units tables.
    at_number units c.row.result _ c.args.number (method_info_view c.method.result.now) (resolved.body_view c.args.body.now) c.in_ok-method.ensures (c.method.ensures units tables) c.row.ensures
