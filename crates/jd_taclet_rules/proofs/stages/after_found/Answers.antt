use Rattle.std.proofs.Common.{map, subst, ◌≡◌}
use Rattle.jd_patterns.specs.Chosen.{chosen}
use Rattle.jd_taclet_matching.specs.Given.{given_told, inst_view}
use Rattle.jd_model.specs.Sequents.{sequent_view}
use Rattle.jd_schema_matching.specs.PartViews.{bindings}
use Rattle.jd_schema_matching.specs.Tested.{tests}
use Rattle.jd_schema_trees.specs.TacletViews.{taclet}
use Rattle.jd_sequent.specs.Obligations.{task_view}
use Rattle.jd_sequent.specs.Steps.{step_view}
use Rattle.jd_taclet_matching.specs.OwnedParts.{owned_entries}
use Rattle.jd_taclet_stages.specs.Stages.{Goes, assumed_stage}
use Rattle.jd_taclet_rules.proofs.Given.{concludes_given, have_given}
use Rattle.jd_taclet_rules.proofs.stages.after_found.Goals as goal

pub with_given-requires : goal.with_given-requires
with_given-requires c = record {
  classes = c.requires.classes;
  have = have_given (task_view c.args.at.now.task.now) (taclet c.args.at.now.row.now) (step_view c.args.at.now.step.now).insts (bindings c.args.found.now) (owned_entries c.in-Ok.given)
      (assumed_stage tests (task_view c.args.at.now.task.now) (sequent_view c.args.at.now.sequent.now) (taclet c.args.at.now.row.now) (step_view c.args.at.now.step.now)) (subst (λ l. given_told (task_view c.args.at.now.task.now) (taclet c.args.at.now.row.now).insts (map inst_view l) (chosen tests (bindings c.args.found.now)) ≡ Goes (owned_entries c.in-Ok.given)) c.deref.ensures.value c.in-Ok.ensures) c.requires.have;
}

pub returns-in-Ok : goal.returns-in-Ok
returns-in-Ok c =
    concludes_given (task_view c.args.at.now.task.now) (taclet c.args.at.now.row.now) (step_view c.args.at.now.step.now).insts (bindings c.args.found.now) (owned_entries c.in-Ok.given)
    (assumed_stage tests (task_view c.args.at.now.task.now) (sequent_view c.args.at.now.sequent.now) (taclet c.args.at.now.row.now) (step_view c.args.at.now.step.now)) (subst (λ l. given_told (task_view c.args.at.now.task.now) (taclet c.args.at.now.row.now).insts (map inst_view l) (chosen tests (bindings c.args.found.now)) ≡ Goes (owned_entries c.in-Ok.given)) c.deref.ensures.value c.in-Ok.ensures) c.with_given.result c.with_given.ensures
