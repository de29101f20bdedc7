use Rattle.std.proofs.Common.{arith}
use Rattle.jd_spelled_trees.proofs.Leaves.{formula_raised, loc_raised, put_in_formula, put_in_term, term_raised}
use Rattle.jd_spelled_trees.proofs.laws.narrow_trees_fit.Goals as goal

pub returns : goal.returns
returns c = record {
  term_lifted = term_raised 1 (omega arith);
  loc_lifted = loc_raised 1 (omega arith);
  formula_lifted = formula_raised 1 (omega arith);
  put_in_term = put_in_term;
  put_in_formula = put_in_formula;
}
