use Rattle.std.proofs.Common.{[], refl, ◌∷◌}
use Rattle.jd_spelled_trees.proofs.Puts.{raised_formula, raised_loc, raised_term}
use Rattle.jd_spelled_trees.proofs.laws.spelled_trees_are_lifted.Goals as goal

pub returns : goal.returns
returns c = record {
  term = λ names s ctx t h. raised_term names (s ∷ []) ctx 1 refl t h;
  loc = λ names s ctx l h. raised_loc names (s ∷ []) ctx 1 refl l h;
  formula = λ names s ctx a h. raised_formula names (s ∷ []) ctx 1 refl a h;
}
