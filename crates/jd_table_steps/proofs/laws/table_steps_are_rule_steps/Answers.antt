use Rattle.jd_table_steps.proofs.Tables.{are_rule_steps}
use Rattle.jd_table_steps.proofs.laws.table_steps_are_rule_steps.Goals as goal

pub returns : goal.returns
returns c = are_rule_steps
