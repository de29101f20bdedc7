use Rattle.jd_oblig.proofs.ClosedTasks.{calls_give_reachability}
use Rattle.jd_oblig.proofs.calls_give_reachability.Goals as goal

pub returns : goal.returns
returns c = calls_give_reachability
