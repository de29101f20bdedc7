use Rattle.jd_spelled_trees.proofs.FromKnown.{narrow_formula, narrow_loc, narrow_term, spelled_formula, spelled_loc, spelled_term}
use Rattle.jd_spelled_trees.proofs.laws.known_trees_are_spelled.Goals as goal

pub returns : goal.returns
returns c = record {
  term = spelled_term;
  loc = spelled_loc;
  formula = spelled_formula;
  narrow_term = narrow_term;
  narrow_loc = narrow_loc;
  narrow_formula = narrow_formula;
}
