use Rattle.jd_row_data.proofs.Additions.{one_more}
use Rattle.jd_schema_trees.specs.FormulaViews.{formula_pattern}
use Rattle.jd_row_data.proofs.growing.with_formula.Goals as goal

pub returns : goal.returns
returns c = λ xs x is one. one_more formula_pattern c.args.items c.args.item c.added.result xs x c.added.ensures is one
