use Rattle.jd_straight_bodies.proofs.Words.{literal_expr}
use Rattle.jd_straight_bodies.proofs.laws.literals_of_code_are_known.Goals as goal

pub returns : goal.returns
returns c = literal_expr
