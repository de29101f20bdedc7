use Rattle.std.proofs.Common.{◌≡◌, IfOk, subst}
use Rattle.jd_term.specs.Formulas.{formula_view}
use Rattle.jd_tgrammar.specs.Spelling.{formula_text}
use Rattle.jd_print.proofs.Spelled.{printed}
use Rattle.jd_print.proofs.formulas.print_formula.Goals as goal

pub returns : goal.returns
returns g c =
    subst (λ w. IfOk c.formula-out.result.bytes (λ v. v.items ≡ w)) (printed (formula_text (g.N.NameTexts.table c.args.names.now) (formula_view c.args.formula.now)))
    (c.formula-out.ensures _ c.new.ensures).0
