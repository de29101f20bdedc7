use Rattle.jd_schema_trees.specs.CodeViews.{stmt_pattern}
use Rattle.jd_formula_matching.proofs.Seeking.{around_as}
use Rattle.jd_formula_matching.proofs.formulas.around_focus.Goals as goal

pub returns : goal.returns
returns c = around_as (stmt_pattern c.args.s.now) c.sought.result c.args.c.now c.deref.result.now c.sought.ensures c.deref.ensures.value
