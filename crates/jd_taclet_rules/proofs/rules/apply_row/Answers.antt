use Rattle.std.proofs.Common.{All, IfOk, map, option_map, subst, sym, ◌≡◌}
use Rattle.jd_model.specs.Sequents.{place_view, sequent_view}
use Rattle.jd_schema_trees.specs.TacletViews.{taclet, taclet_kind}
use Rattle.jd_sequent.specs.Obligations.{task_view}
use Rattle.jd_sequent.specs.Steps.{step_view}
use Rattle.jd_taclet_premises.specs.Premises.{StandsIn, premise_of}
use Rattle.jd_taclet_premises.specs.Views.{goal_view}
use Rattle.jd_taclet_rules.proofs.Concluding.{concludes}
use Rattle.jd_taclet_rules.proofs.Lent.{same_place}
use Rattle.jd_taclet_rules.proofs.Working.{goals_stand, instances_there, is_step, refused}
use Rattle.jd_taclet_rules.proofs.rules.apply_row.Goals as goal

pub goals_of_step-requires : goal.goals_of_step-requires
goals_of_step-requires c = instances_there (taclet c.args.row.now) (task_view c.args.task.now) (sequent_view c.args.sequent) (step_view c.args.step.now) c.requires

pub premises-requires : goal.premises-requires
premises-requires c =
    subst (λ q. All (StandsIn (sequent_view c.args.sequent) q) (map goal_view c.in-Ok.goals.items)) (sym (same_place c.args.step.now.place c.as_ref.result c.as_ref.ensures.value))
    (goals_stand (taclet c.args.row.now) (task_view c.args.task.now) (sequent_view c.args.sequent) (step_view c.args.step.now) c.requires (map goal_view c.in-Ok.goals.items) c.in-Ok.ensures)

pub returns-in-Err : goal.returns-in-Err
returns-in-Err c = refused (taclet c.args.row.now) (task_view c.args.task.now) (sequent_view c.args.sequent) (step_view c.args.step.now) c.requires c.in-Err.bad c.in-Err.ensures

pub returns-in-Ok : goal.returns-in-Ok
returns-in-Ok c =
    let s = sequent_view c.args.sequent in
    let goals = map goal_view c.in-Ok.goals.items in
    let made = map (premise_of (taclet_kind c.args.row.now.kind) s (option_map place_view c.args.step.now.place)) goals in
    concludes (taclet c.args.row.now) (task_view c.args.task.now) s (step_view c.args.step.now) made
    (is_step (taclet c.args.row.now) (task_view c.args.task.now) s (step_view c.args.step.now) c.requires goals c.in-Ok.ensures)
    c.within.result
    (c.within.ensures made (subst (λ q. IfOk c.premises.result (λ v. map sequent_view v.items ≡ map (premise_of (taclet_kind c.args.row.now.kind) s q) goals)) (same_place c.args.step.now.place c.as_ref.result c.as_ref.ensures.value) c.premises.ensures))
