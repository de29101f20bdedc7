use Rattle.jd_jml_meaning.proofs.CasesKept.{kept_alike}
use Rattle.jd_jml_meaning.proofs.cases_are_kept_alike.Goals as goal

pub returns : goal.returns
returns c = kept_alike
