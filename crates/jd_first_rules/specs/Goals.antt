-- The view of a goal.
use Rattle.std.specs.Prelude.{map}
use Rattle.jd_term.specs.Formulas.{formula_view}
use Rattle.jd_first_steps.specs.Rows as plain
use Rattle.jd_first_rules.specs.declared.rows.Goal.{Goal}

abbrev pub goal_view : Goal → plain.Goal
goal_view g = record { here = map formula_view g.here.items; other = map formula_view g.other.items }
