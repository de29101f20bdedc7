use Rattle.jd_program_tables.proofs.Standing.{tables_stand}
use Rattle.jd_program_tables.proofs.laws.tables_of_programs_stand.Goals as goal

pub returns : goal.returns
returns c = tables_stand c.rows_stand.ensures c.one_method.ensures c.contracts_speak.ensures
