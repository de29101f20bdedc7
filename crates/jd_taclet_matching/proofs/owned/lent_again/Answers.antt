use Rattle.std.proofs.Common.{ap, sym}
use Rattle.jd_schema_matching.specs.PartViews.{part_view}
use Rattle.jd_taclet_matching.proofs.owned.lent_again.Goals as goal

pub returns-in-Context : goal.returns-in-Context
returns-in-Context c = sym (ap part_view c.in-Context.is)
