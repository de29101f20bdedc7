use Rattle.std.proofs.Common.{◌≡◌, ◌++◌, map, drop}
use Rattle.jd_model.specs.Tables.{invariants_in}
use Rattle.jd_sequent.specs.Obligations.{task_view}
use Rattle.jd_term.specs.Formulas.{formula_view}
use Rattle.jd_told_tables.specs.Lines.{renamed_along}
use Rattle.jd_told_tables.specs.Places.{renaming_at}
use Rattle.jd_told_tables.proofs.invariants.add_along.Given as goal

-- what the classes from here on have is there
abbrev pub invariant-loop-place : goal.invariant-loop-place
invariant-loop-place l = map formula_view l.made.items ≡ map formula_view l.fn.made.items ++ renamed_along (renaming_at l.at) (invariants_in (task_view l.task).contracts.invariants) (drop l.place l.classes)
