use Rattle.jd_schema_matching.specs.Tested.{tests}
use Rattle.jd_schema_matching.proofs.Agreeing.{agreed_by}
use Rattle.jd_schema_matching.proofs.tests.same_code.Goals as goal

pub returns : goal.returns
returns c = agreed_by tests.code _ _ _ c.equal_codes.ensures
