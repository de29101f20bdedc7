use Rattle.jd_program_laws.proofs.Meaning.{has_meaning}
use Rattle.jd_program_laws.proofs.laws.programs_have_meanings.Goals as goal

pub returns : goal.returns
returns c = λ units t tables d are. has_meaning c.numbers_of_classes.ensures.parents c.numbers_of_classes.ensures.members c.numbers_of_routines.ensures.members units t tables d are
