use Rattle.jd_large_obligations.proofs.Large.{not_within}
use Rattle.jd_large_obligations.proofs.laws.large_clauses_make_large_sequents.Goals as goal

pub returns : goal.returns
returns c units p fields case b = not_within units p fields case b
