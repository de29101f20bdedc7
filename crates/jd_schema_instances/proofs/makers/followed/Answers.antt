use Rattle.jd_syntax.specs.Codes.{Done, Then}
use Rattle.jd_schema_instances.proofs.makers.followed.Goals as goal

pub returns : goal.returns
returns c x y one more = c.chained.ensures (Then x Done) y (c.alone.ensures x one) more
