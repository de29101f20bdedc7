use Rattle.jd_model.specs.Sequents.{sequent_view, place_view}
use Rattle.jd_sequent.specs.Steps.{step_view}
use Rattle.jd_first_rules.proofs.Applying.{taken_is_instance}
use Rattle.jd_first_rules.proofs.set.applied.Goals as goal

pub returns : goal.returns
returns c = taken_is_instance c.args.rule (sequent_view c.args.sequent) (step_view c.args.step.now) (place_view c.in-Ok.found.0.now) c.in-Ok.found.1 _ c.requires c.in-Ok.ensures c.in_ok-premises.ensures
