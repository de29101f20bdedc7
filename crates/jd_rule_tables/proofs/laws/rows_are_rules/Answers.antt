use Rattle.jd_rule_tables.proofs.Tables.{rows_are_rules}
use Rattle.jd_rule_tables.proofs.laws.rows_are_rules.Goals as goal

pub returns : goal.returns
returns c = rows_are_rules c.logic_rows_mean.ensures c.integer_rows_mean.ensures c.logic_rows_are_found.ensures c.integer_rows_are_found.ensures
