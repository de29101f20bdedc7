use Rattle.jd_spelled_trees.proofs.Indices.{below_formula, below_loc, below_term, sorts_in_formula, sorts_in_loc, sorts_in_term}
use Rattle.jd_spelled_trees.proofs.laws.spelled_indices_are_bound.Goals as goal

pub returns : goal.returns
returns c = record {
  term = below_term;
  loc = below_loc;
  formula = below_formula;
  sorts_in_term = sorts_in_term;
  sorts_in_loc = sorts_in_loc;
  sorts_in_formula = sorts_in_formula;
}
