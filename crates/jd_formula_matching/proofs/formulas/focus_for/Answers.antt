use Rattle.jd_syntax.specs.CodeViews.{stmt_view}
use Rattle.jd_schema_trees.specs.CodeViews.{stmt_pattern}
use Rattle.jd_formula_matching.proofs.Seeking.{focus_as}
use Rattle.jd_formula_matching.proofs.formulas.focus_for.Goals as goal

pub returns : goal.returns
returns c = focus_as (λ t. stmt_view t.now) (stmt_pattern c.args.s.now) c.sought.result c.args.c.now c.deref.result.now c.first_focus.result c.sought.ensures c.deref.ensures.value c.first_focus.ensures
