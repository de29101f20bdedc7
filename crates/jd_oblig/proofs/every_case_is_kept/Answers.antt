use Rattle.jd_oblig.proofs.Links.{every_case_is_kept}
use Rattle.jd_oblig.proofs.every_case_is_kept.Goals as goal

pub returns : goal.returns
returns c = every_case_is_kept
