use Rattle.jd_taclet_steps.proofs.Places.{places}
use Rattle.jd_taclet_steps.proofs.laws.places_are_surrounded.Goals as goal

pub returns : goal.returns
returns c = places
