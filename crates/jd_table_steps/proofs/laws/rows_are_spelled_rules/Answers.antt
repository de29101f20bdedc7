use Rattle.jd_table_steps.proofs.Rows.{rows_are_rules}
use Rattle.jd_table_steps.proofs.laws.rows_are_spelled_rules.Goals as goal

pub returns : goal.returns
returns c = rows_are_rules
