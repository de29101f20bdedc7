use Rattle.jd_schema_instances.proofs.Programs.{formulas_alike}
use Rattle.jd_schema_instances.proofs.laws.instances_are_alike.Goals as goal

pub returns : goal.returns
returns c = formulas_alike
