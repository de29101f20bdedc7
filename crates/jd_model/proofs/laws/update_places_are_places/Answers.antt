use Rattle.jd_model.proofs.UpdatePlaces.{update_places_are_places}
use Rattle.jd_model.proofs.laws.update_places_are_places.Goals as goal

pub returns : goal.returns
returns c = update_places_are_places
