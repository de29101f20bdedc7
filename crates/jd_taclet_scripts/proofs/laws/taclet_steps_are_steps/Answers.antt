use Rattle.jd_taclet_scripts.proofs.Rows.{steps_are_steps}
use Rattle.jd_taclet_scripts.proofs.laws.taclet_steps_are_steps.Goals as goal

pub returns : goal.returns
returns c = steps_are_steps c.places_are_surrounded.ensures c.term_places_are_surrounded.ensures c.terms_are_replaced.ensures c.answers.ensures c.told_is_that.ensures
