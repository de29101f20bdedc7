use Rattle.jd_row_data.proofs.Additions.{one_more}
use Rattle.jd_row_data.specs.Said.{said}
use Rattle.jd_row_data.proofs.growing.with_condition.Goals as goal

pub returns : goal.returns
returns c = λ xs x is one. one_more said c.args.items c.args.item c.added.result xs x c.added.ensures is one
