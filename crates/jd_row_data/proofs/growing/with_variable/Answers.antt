use Rattle.jd_row_data.proofs.Additions.{one_more}
use Rattle.jd_row_data.specs.Names.{inst_name}
use Rattle.jd_row_data.proofs.growing.with_variable.Goals as goal

pub returns : goal.returns
returns c = λ xs x is one. one_more inst_name c.args.items c.args.item c.added.result xs x c.added.ensures is one
