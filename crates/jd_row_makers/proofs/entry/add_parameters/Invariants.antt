use Rattle.std.proofs.Common.{◌≡◌, ◌++◌, map, drop}
use Rattle.jd_case_rows.specs.Rows.{parameter_members}
use Rattle.jd_row_makers.specs.Heads.{parameter_view}
use Rattle.jd_term.specs.Formulas.{formula_view}
use Rattle.jd_row_makers.proofs.entry.add_parameters.Given as goal

-- what is there, and what those that are left add
abbrev pub invariant-loop-p : goal.invariant-loop-p
invariant-loop-p l = map formula_view l.to.items ++ parameter_members (map parameter_view (drop l.p-index l.parameters)) ≡ map formula_view l.fn.to.items ++ parameter_members (map parameter_view l.fn.parameters)
