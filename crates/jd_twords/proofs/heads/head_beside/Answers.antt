use Rattle.std.proofs.Common.{◌∙◌}
use Rattle.jd_twords.proofs.Tables.{in_columns}
use Rattle.jd_twords.proofs.heads.head_beside.Goals as goal

pub returns : goal.returns
returns g c = c.head_in.ensures ∙ in_columns c.args.rows.now c.args.word.now
