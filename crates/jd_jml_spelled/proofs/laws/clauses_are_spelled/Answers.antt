use Rattle.jd_jml_spelled.proofs.Clauses.{printed_spelled, printed_kinds}
use Rattle.jd_jml_spelled.proofs.laws.clauses_are_spelled.Goals as goal

pub returns : goal.returns
returns c = record { spelled = printed_spelled; kinds = printed_kinds }
