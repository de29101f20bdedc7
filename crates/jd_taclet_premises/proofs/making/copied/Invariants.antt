use Rattle.std.proofs.Common.{All, map, option_map, ◌++◌, ◌≡◌}
use Rattle.jd_model.specs.Sequents.{place_view, sequent_view}
use Rattle.jd_schema_trees.specs.TacletViews.{taclet_kind}
use Rattle.jd_taclet_premises.specs.Premises.{StandsIn, premise_of}
use Rattle.jd_taclet_premises.specs.Views.{goal_view}
use Rattle.jd_taclet_premises.proofs.making.copied.Given as goal

abbrev pub invariant-loop-goal : goal.invariant-loop-goal
invariant-loop-goal l =
    All (StandsIn (sequent_view l.sequent) (option_map (λ q. place_view q.now) l.place)) (map goal_view l.goal-iterator.rest.items)
    × (map sequent_view l.made.items ++ map (premise_of (taclet_kind l.kind) (sequent_view l.sequent) (option_map (λ q. place_view q.now) l.place)) (map goal_view l.goal-iterator.rest.items)
    ≡ map (premise_of (taclet_kind l.kind) (sequent_view l.sequent) (option_map (λ q. place_view q.now) l.place)) (map goal_view l.fn.goals.items))
