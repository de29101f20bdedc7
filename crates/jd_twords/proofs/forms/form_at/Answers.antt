use Rattle.std.proofs.Common.{sym, ap, ◌∙◌}
use Rattle.jd_tforms.specs.Forms.{forms}
use Rattle.jd_twords.specs.Places.{at_number, place_view}
use Rattle.jd_twords.proofs.forms.form_at.Goals as goal

pub returns-in-Term : goal.returns-in-Term
returns-in-Term c = c.form_in.ensures ∙ ap (λ p. at_number c.args.number (forms (place_view p))) (sym c.in-Term.is)

pub returns-in-Loc : goal.returns-in-Loc
returns-in-Loc c = c.form_in-in-Loc.ensures ∙ ap (λ p. at_number c.args.number (forms (place_view p))) (sym c.in-Loc.is)

pub returns-in-Formula : goal.returns-in-Formula
returns-in-Formula c = c.form_in-in-Formula.ensures ∙ ap (λ p. at_number c.args.number (forms (place_view p))) (sym c.in-Formula.is)

pub returns-in-Expr : goal.returns-in-Expr
returns-in-Expr c = c.form_in-in-Expr.ensures ∙ ap (λ p. at_number c.args.number (forms (place_view p))) (sym c.in-Expr.is)

pub returns-in-Stmt : goal.returns-in-Stmt
returns-in-Stmt c = c.form_in-in-Stmt.ensures ∙ ap (λ p. at_number c.args.number (forms (place_view p))) (sym c.in-Stmt.is)

pub returns-in-Code : goal.returns-in-Code
returns-in-Code c = c.only.ensures ∙ ap (λ p. at_number c.args.number (forms (place_view p))) (sym c.in-Code.is)

pub returns-in-Pairs : goal.returns-in-Pairs
returns-in-Pairs c = c.only-in-Pairs.ensures ∙ ap (λ p. at_number c.args.number (forms (place_view p))) (sym c.in-Pairs.is)

pub returns-in-Pair : goal.returns-in-Pair
returns-in-Pair c = c.only-in-Pair.ensures ∙ ap (λ p. at_number c.args.number (forms (place_view p))) (sym c.in-Pair.is)

pub returns-in-Array : goal.returns-in-Array
returns-in-Array c = c.only-in-Array.ensures ∙ ap (λ p. at_number c.args.number (forms (place_view p))) (sym c.in-Array.is)
