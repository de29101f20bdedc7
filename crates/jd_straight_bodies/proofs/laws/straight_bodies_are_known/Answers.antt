use Rattle.jd_straight_bodies.proofs.Whole.{bodies_known}
use Rattle.jd_straight_bodies.proofs.laws.straight_bodies_are_known.Goals as goal

pub returns : goal.returns
returns c = bodies_known c.texts_of_locals_are_apart.ensures c.expressions_add_temporaries.ensures c.names_are_known.ensures
