use Rattle.std.proofs.Common.{ap, option_map, subst, sym, ◌∙◌}
use Rattle.jd_model.specs.Sequents.{place_view, sequent_view}
use Rattle.jd_schema_trees.specs.TacletViews.{taclet_kind}
use Rattle.jd_taclet_premises.proofs.Standing.{head_stands, next_made, rest_stand}
use Rattle.jd_taclet_premises.specs.Premises.{StandsIn, premise_of}
use Rattle.jd_taclet_premises.specs.Views.{goal_view}
use Rattle.jd_taclet_premises.proofs.making.copied.Goals as goal

pub premise-requires : goal.premise-requires
premise-requires c =
    let place = option_map (λ q. place_view q.now) c.args.place in
    subst (λ s. StandsIn s place (goal_view c.in-Some.goal)) (sym c.in_ok-copy.ensures)
    (head_stands (StandsIn (sequent_view c.args.sequent.now) place) c.in-Some.goal _ _ c.in-Some.ensures.steps.0 c.loop-goal.invariant.0)

pub loop-goal-preserved : goal.loop-goal-preserved
loop-goal-preserved c =
    let place = option_map (λ q. place_view q.now) c.args.place in
    let made = premise_of (taclet_kind c.args.kind) (sequent_view c.args.sequent.now) place in (
      rest_stand (StandsIn (sequent_view c.args.sequent.now) place) c.in-Some.goal _ _ c.in-Some.ensures.steps.0 c.loop-goal.invariant.0,
      next_made made c.loop-goal.made.items _ _ c.in-Some.goal _ _ _ c.in_ok-push.ensures.items
          (c.in_ok-premise.ensures ∙ ap (λ s. premise_of (taclet_kind c.args.kind) s place (goal_view c.in-Some.goal)) c.in_ok-copy.ensures)
          c.in-Some.ensures.steps.0 c.loop-goal.invariant.1,
    )
