use Rattle.std.proofs.Common.{◌≡◌, ◌++◌, ◌∷◌, [], map, vec_len}
use Rattle.jd_term.specs.Formulas.{formula_view}
use Rattle.jd_model.specs.Conjunctions.{conjunction}
use Rattle.jd_obligation_makers.proofs.conjunctions.conjoined.Given as goal

abbrev pub decreases-loop-member : goal.decreases-loop-member
decreases-loop-member l = vec_len l.members

-- the members that are left and what is made are the members
abbrev pub invariant-loop-member : goal.invariant-loop-member
invariant-loop-member l = conjunction (map formula_view l.members.items ++ formula_view l.whole ∷ []) ≡ conjunction (map formula_view l.fn.members.items)
