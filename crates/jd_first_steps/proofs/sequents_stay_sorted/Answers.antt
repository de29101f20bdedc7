use Rattle.jd_first_steps.proofs.SortedSteps.{sequents_stay_sorted}
use Rattle.jd_first_steps.proofs.sequents_stay_sorted.Goals as goal

pub returns : goal.returns
returns c = sequents_stay_sorted
