use Rattle.jd_schema_matching.specs.Tested.{tests}
use Rattle.jd_schema_matching.proofs.Agreeing.{agreed_by}
use Rattle.jd_told_tables.proofs.kinds.is_kind.Goals as goal

pub returns : goal.returns
returns c = agreed_by tests.kind _ _ _ c.equals.ensures
