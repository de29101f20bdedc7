use Rattle.std.proofs.Common.{◌≡◌, ◌^◌, ◌-◌, min, map, take}
use Rattle.std.specs.Prelude.{sum_by}
use Rattle.jd_term.specs.Formulas.{formula_view}
use Rattle.jd_term.specs.FormulaSizes.{formula_size}
use Rattle.jd_sequent.proofs.limits.nodes_in.Given as goal

abbrev pub invariant-loop-formula : goal.invariant-loop-formula
invariant-loop-formula l = l.nodes ≡ min (sum_by formula_size (map formula_view (take l.formula-index l.formulas))) (2 ^ 64 - 1)
