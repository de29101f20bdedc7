use Rattle.jd_program_laws.proofs.Families.{reach}
use Rattle.jd_program_laws.proofs.laws.families_are_reachable.Goals as goal

pub returns : goal.returns
returns c = λ units j is. reach units j is
