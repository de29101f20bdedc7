use Rattle.jd_scripts.proofs.Sound.{is_file}
use Rattle.jd_scripts.proofs.what_is_read_is_a_file.Goals as goal

pub returns : goal.returns
returns c = λ limits ts f e. is_file limits ts f.version f.proofs e
