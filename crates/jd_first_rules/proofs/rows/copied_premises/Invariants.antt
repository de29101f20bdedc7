use Rattle.std.proofs.Common.{◌≡◌, ◌++◌, map}
use Rattle.jd_model.specs.Sequents.{sequent_view}
use Rattle.jd_first_steps.specs.Rows.{goal_premise}
use Rattle.jd_first_rules.specs.Goals.{goal_view}
use Rattle.jd_first_rules.proofs.rows.copied_premises.Given as goal

abbrev pub invariant-loop-goal : goal.invariant-loop-goal
invariant-loop-goal l =
    map sequent_view l.out.items ++ map (goal_premise (sequent_view l.sequent) l.side l.index) (map goal_view l.goal-iterator.rest.items)
    ≡ map (goal_premise (sequent_view l.sequent) l.side l.index) (map goal_view l.fn.goals.items)
