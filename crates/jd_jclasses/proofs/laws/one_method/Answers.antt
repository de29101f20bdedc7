use Rattle.jd_jclasses.proofs.Seen.{one_seen, not_both}
use Rattle.jd_jclasses.proofs.laws.one_method.Goals as goal

pub returns : goal.returns
returns c = record { one_seen = one_seen c.depths_are_an_order.ensures.transitive; none_seen = not_both }
