use Rattle.jd_oblig.proofs.ClosedTasks.{every_closed_case_is_kept}
use Rattle.jd_oblig.proofs.every_closed_case_is_kept.Goals as goal

pub returns : goal.returns
returns c = every_closed_case_is_kept
