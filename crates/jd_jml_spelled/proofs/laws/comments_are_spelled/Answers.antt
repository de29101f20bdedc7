use Rattle.jd_jml_spelled.proofs.Spelling.{comment_spelled}
use Rattle.jd_jml_spelled.proofs.laws.comments_are_spelled.Goals as goal

pub returns : goal.returns
returns c = comment_spelled
