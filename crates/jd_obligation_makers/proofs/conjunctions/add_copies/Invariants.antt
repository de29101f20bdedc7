use Rattle.std.proofs.Common.{◌≡◌, ◌++◌, map, drop}
use Rattle.jd_term.specs.Formulas.{formula_view}
use Rattle.jd_obligation_makers.proofs.conjunctions.add_copies.Given as goal

-- what is there, and those that are left
abbrev pub invariant-loop-f : goal.invariant-loop-f
invariant-loop-f l = map formula_view l.to.items ++ map formula_view (drop l.f-index l.members) ≡ map formula_view l.fn.to.items ++ map formula_view l.fn.members
