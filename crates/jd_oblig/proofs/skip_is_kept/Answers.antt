use Rattle.jd_oblig.proofs.SkipExample.{skip_is_kept}
use Rattle.jd_oblig.proofs.skip_is_kept.Goals as goal

pub returns : goal.returns
returns c = skip_is_kept
