use Rattle.jd_spelled_trees.proofs.Places.{taken_is_closed, taken_is_narrow, taken_is_spelled}
use Rattle.jd_spelled_trees.proofs.laws.taken_sequents_are_spelled.Goals as goal

pub returns : goal.returns
returns c = record { spelled = taken_is_spelled; narrow = taken_is_narrow; closed = taken_is_closed }
