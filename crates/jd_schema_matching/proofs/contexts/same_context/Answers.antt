use Rattle.jd_schema_matching.specs.Tested.{tests}
use Rattle.jd_schema_matching.proofs.Agreeing.{agreed_by}
use Rattle.jd_schema_matching.proofs.contexts.same_context.Goals as goal

pub returns : goal.returns
returns c = agreed_by tests.context _ _ _ c.equal_contexts.ensures
