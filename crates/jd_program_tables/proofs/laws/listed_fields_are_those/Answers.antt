use Rattle.jd_program_tables.proofs.ListedFields.{are_those}
use Rattle.jd_program_tables.proofs.laws.listed_fields_are_those.Goals as goal

pub returns : goal.returns
returns c = are_those
