use Rattle.std.proofs.Common.{◌∙◌}
use Rattle.jd_term.specs.Formulas.{formula_view}
use Rattle.jd_term.proofs.Capping.{formula_depth_capped}
use Rattle.jd_term.proofs.sizes.depth.Goals as goal

pub returns : goal.returns
returns c = c.fold_formula.ensures ∙ formula_depth_capped (formula_view c.args.f.now)
