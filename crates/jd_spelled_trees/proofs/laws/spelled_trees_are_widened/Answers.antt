use Rattle.jd_spelled_trees.proofs.Puts.{wider_formula, wider_loc, wider_term}
use Rattle.jd_spelled_trees.proofs.laws.spelled_trees_are_widened.Goals as goal

pub returns : goal.returns
returns c = record { term = wider_term; loc = wider_loc; formula = wider_formula }
