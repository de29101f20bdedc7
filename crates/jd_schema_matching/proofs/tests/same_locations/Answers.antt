use Rattle.jd_schema_matching.specs.Tested.{tests}
use Rattle.jd_schema_matching.proofs.Agreeing.{agreed_by}
use Rattle.jd_schema_matching.proofs.tests.same_locations.Goals as goal

pub returns : goal.returns
returns c = agreed_by tests.locations _ _ _ c.equals.ensures
