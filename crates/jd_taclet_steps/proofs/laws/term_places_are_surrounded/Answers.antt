use Rattle.jd_taclet_steps.proofs.TermPlaces.{term_places}
use Rattle.jd_taclet_steps.proofs.laws.term_places_are_surrounded.Goals as goal

pub returns : goal.returns
returns c = term_places
