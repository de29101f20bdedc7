use Rattle.jd_oblig.proofs.Links.{rows_make_obligations}
use Rattle.jd_oblig.proofs.rows_make_obligations.Goals as goal

pub returns : goal.returns
returns c = rows_make_obligations
