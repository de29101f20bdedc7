use Rattle.jd_row_data.proofs.Additions.{one_more}
use Rattle.jd_schema_trees.specs.TacletViews.{assumption}
use Rattle.jd_row_data.proofs.growing.with_assumption.Goals as goal

pub returns : goal.returns
returns c = λ xs x is one. one_more assumption c.args.items c.args.item c.added.result xs x c.added.ensures is one
