use Rattle.jd_scripts.proofs.Complete.{reads_file}
use Rattle.jd_scripts.proofs.files_are_read.Goals as goal

pub returns : goal.returns
returns c = λ limits f h. reads_file limits f h
