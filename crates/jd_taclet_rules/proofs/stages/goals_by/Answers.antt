use Rattle.std.proofs.Common.{ap, map, subst, sym, ◌∙◌}
use Rattle.jd_schema_instances.specs.Choosing.{instance_by, program_by}
use Rattle.jd_schema_trees.specs.TacletViews.{goal as goal_pattern, taclet}
use Rattle.jd_sequent.specs.Obligations.{task_view}
use Rattle.jd_taclet_premises.specs.Having.{AllHaveInstances}
use Rattle.jd_taclet_premises.specs.Premises.{goal_of}
use Rattle.jd_told_programs.specs.Told.{told_setting}
use Rattle.jd_taclet_rules.proofs.Having.{goals_have_there, goals_same}
use Rattle.jd_taclet_rules.proofs.Sames.{throw_same}
use Rattle.jd_taclet_rules.proofs.stages.goals_by.Goals as goal

pub goals-requires : goal.goals-requires
goals-requires c =
    subst (λ l. AllHaveInstances (program_by c.args.by.now) (instance_by c.args.by.now) (map goal_pattern l)) (sym c.deref.ensures.value)
    (goals_have_there (told_setting (task_view c.args.task.now)).program (program_by c.args.by.now) (instance_by c.args.by.now) (taclet c.args.row.now).goals c.requires.have)

pub returns-in-Ok : goal.returns-in-Ok
returns-in-Ok c =
    c.in-Ok.ensures
    ∙ ap (λ l. map (goal_of (program_by c.args.by.now) (instance_by c.args.by.now)) (map goal_pattern l)) c.deref.ensures.value
    ∙ sym (goals_same (told_setting (task_view c.args.task.now)).program (program_by c.args.by.now) (instance_by c.args.by.now) (throw_same (task_view c.args.task.now) c.args.by.now c.requires.classes) (taclet c.args.row.now).goals)
