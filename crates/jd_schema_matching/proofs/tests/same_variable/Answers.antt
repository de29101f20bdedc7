use Rattle.std.proofs.Common.{rules}
use Rattle.jd_schema_matching.specs.Tested.{tests}
use Rattle.jd_schema_matching.proofs.Agreeing.{agreed_by}
use Rattle.jd_schema_matching.proofs.tests.same_variable.Goals as goal

pub returns : goal.returns
returns c = agreed_by tests.variable _ _ _ (search rules)
