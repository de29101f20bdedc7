use Rattle.std.proofs.Common.{refl}
use Rattle.jd_programs.proofs.examples.case_examples.Goals as goal

pub returns : goal.returns
returns c = record { constructors = refl; of_a = refl; of_b = refl; of_c = refl; of_object = refl; cases = refl }
