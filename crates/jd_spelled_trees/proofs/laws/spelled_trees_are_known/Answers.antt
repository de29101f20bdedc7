use Rattle.std.proofs.Common.{[], arith}
use Rattle.jd_spelled_trees.proofs.ToKnown.{known_formula, known_term}
use Rattle.jd_spelled_trees.proofs.laws.spelled_trees_are_known.Goals as goal

pub returns : goal.returns
returns c = record {
  term = λ names t s l. known_term names [] t s (omega (arith, l));
  formula = λ names a s l. known_formula names [] a s (omega (arith, l));
}
