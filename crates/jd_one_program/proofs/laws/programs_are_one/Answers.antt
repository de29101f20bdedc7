use Rattle.jd_one_program.proofs.One.{one_meaning}
use Rattle.jd_one_program.proofs.laws.programs_are_one.Goals as goal

pub returns : goal.returns
returns c = λ units stand j k of_j of_k. one_meaning c.declarations_are_one.ensures c.one_method.ensures units stand j k of_j of_k
