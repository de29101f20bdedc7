use Rattle.jd_program_tables.proofs.ListedTables.{made}
use Rattle.jd_program_tables.proofs.laws.listed_tables_are_made.Goals as goal

pub returns : goal.returns
returns c = made c.bodies_begin_with_parameters.ensures c.families_play_no_part.ensures
