use Rattle.std.proofs.Common.{◌≡◌, map, drop}
use Rattle.std.specs.List.{list_all}
use Rattle.jd_term.specs.Formulas.{formula_view}
use Rattle.jd_sequent.specs.Limits.{is_small_formula}
use Rattle.jd_sequent.proofs.limits.are_small.Given as goal

abbrev pub invariant-loop-formula : goal.invariant-loop-formula
invariant-loop-formula l = list_all is_small_formula (map formula_view (drop l.formula-index l.formulas)) ≡ list_all is_small_formula (map formula_view l.formulas)
