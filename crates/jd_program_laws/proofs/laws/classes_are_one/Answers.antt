use Rattle.jd_program_laws.proofs.ClassTables.{classes_are_one}
use Rattle.jd_program_laws.proofs.laws.classes_are_one.Goals as goal

pub returns : goal.returns
returns c = λ units k l a b. classes_are_one units k l a b
