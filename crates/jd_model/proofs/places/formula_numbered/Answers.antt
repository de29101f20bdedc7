use Rattle.std.proofs.Common.{◌-◌, arith}
use Rattle.jd_term.specs.Formulas.{formula_view}
use Rattle.jd_model.proofs.Numbered.{numbered_here, numbered_past}
use Rattle.jd_model.proofs.places.formula_numbered.Goals as goal

pub returns-then-place-formulas : goal.returns-then-place-formulas
returns-then-place-formulas c =
    numbered_here formula_view c.args.formulas.now c.args.index (c.args.index - 1) _ (omega arith) c.index-formulas-place.is (omega arith)

pub returns : goal.returns
returns c = numbered_past formula_view c.args.formulas.now c.args.index (c.args.index - 1) (omega arith) (omega arith)
