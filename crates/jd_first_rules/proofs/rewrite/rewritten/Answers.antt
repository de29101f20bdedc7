use Rattle.std.proofs.Common.{IfOk, sym, subst}
use Rattle.jd_term.specs.Formulas.{formula_view}
use Rattle.jd_first_rules.specs.Results.{IsRewriting}
use Rattle.jd_first_rules.proofs.Rewritings.{set_result, return_result, catch_result}
use Rattle.jd_first_rules.proofs.rewrite.rewritten.Goals as goal

pub returns-in-SetSimple : goal.returns-in-SetSimple
returns-in-SetSimple c = subst (λ r. IfOk c.execute.result (λ o. IsRewriting r (formula_view c.args.before.now) o)) (sym c.in-SetSimple.is) (set_result _ c.execute.result c.execute.ensures)

pub returns-in-FrameReturn : goal.returns-in-FrameReturn
returns-in-FrameReturn c = subst (λ r. IfOk c.execute-in-FrameReturn.result (λ o. IsRewriting r (formula_view c.args.before.now) o)) (sym c.in-FrameReturn.is) (return_result _ c.execute-in-FrameReturn.result c.execute-in-FrameReturn.ensures)

pub returns-in-CatchEmpty : goal.returns-in-CatchEmpty
returns-in-CatchEmpty c = subst (λ r. IfOk c.execute-in-CatchEmpty.result (λ o. IsRewriting r (formula_view c.args.before.now) o)) (sym c.in-CatchEmpty.is) (catch_result _ c.execute-in-CatchEmpty.result c.execute-in-CatchEmpty.ensures)
