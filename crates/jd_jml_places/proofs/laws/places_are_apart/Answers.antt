use Rattle.jd_jml_places.proofs.Apart.{clauses_alike, faultless_alike, within_alike}
use Rattle.jd_jml_places.proofs.laws.places_are_apart.Goals as goal

pub returns : goal.returns
returns c = record { clauses = clauses_alike; faultless = faultless_alike; within = within_alike }
