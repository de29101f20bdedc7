use Rattle.jd_program_laws.proofs.ClassTables.{tables_are_classes}
use Rattle.jd_program_laws.proofs.laws.tables_are_classes.Goals as goal

pub returns : goal.returns
returns c = λ units t tables. tables_are_classes units t tables
