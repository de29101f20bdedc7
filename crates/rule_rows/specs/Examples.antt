-- The goals of the row that is an example.
use Rattle.std.specs.Prelude.{List, [], codes, ◌∷◌}
use Rattle.jd_patterns.specs.Patterns.{FormulaVar}
use Rattle.jd_taclets.specs.Taclets.{TacletGoal}
use Rattle.jd_taclets.specs.Writing.{goal}

abbrev pub turned_goals : List TacletGoal
turned_goals = goal (FormulaVar (codes "right") ∷ []) [] ∷ goal [] (FormulaVar (codes "left") ∷ []) ∷ []
