use Rattle.std.proofs.Common.{◌≡◌, ◌++◌, ◌+◌, drop, map}
use Rattle.jd_model.specs.Sequents.{sequent_view}
use Rattle.jd_answer.specs.Reports.{goals_from}
use Rattle.jd_answer.proofs.goals.add_goals.Given as goal

-- what is left is added to what is added so far
abbrev pub invariant-loop-i : goal.invariant-loop-i
invariant-loop-i g l =
    l.out.items ++ goals_from (g.N.NameTexts.table l.names) (l.i + 1) (map sequent_view (drop l.i l.goals))
    ≡ l.fn.out.items ++ goals_from (g.N.NameTexts.table l.names) 1 (map sequent_view l.goals)
