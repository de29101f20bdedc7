use Rattle.jd_first_steps.proofs.WholeFormulas.{rows_are_sound}
use Rattle.jd_first_steps.proofs.rows_are_sound.Goals as goal

pub returns : goal.returns
returns c = rows_are_sound
