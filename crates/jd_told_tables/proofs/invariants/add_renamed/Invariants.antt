use Rattle.std.proofs.Common.{◌≡◌, ◌++◌, map, drop}
use Rattle.jd_model.specs.Renamings.{rename_all}
use Rattle.jd_term.specs.Formulas.{formula_view}
use Rattle.jd_told_tables.specs.Places.{renaming_at}
use Rattle.jd_told_tables.proofs.invariants.add_renamed.Given as goal

-- what is there, and those that are left
abbrev pub invariant-loop-f : goal.invariant-loop-f
invariant-loop-f l = map formula_view l.made.items ++ rename_all (renaming_at l.at) (map formula_view (drop l.f-index l.formulas)) ≡ map formula_view l.fn.made.items ++ rename_all (renaming_at l.at) (map formula_view l.formulas)
