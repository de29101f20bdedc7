use Rattle.jd_term.proofs.folding.fold_pairs.Given as goal
use Rattle.jd_term.specs.Folds.{fold_pairs}
use Rattle.jd_term.specs.Formulas.{pair_view}
use Rattle.std.proofs.Common.{◌≡◌, drop, map}

-- what is given so far is what the pairs from the place on give
abbrev pub invariant-loop-place : goal.invariant-loop-place
invariant-loop-place h l = l.out ≡ fold_pairs (h.G.Gather.gathers l.g) (map pair_view (drop l.place l.pairs))
