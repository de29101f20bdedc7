use Rattle.std.proofs.Common.{option_map, sym, ap, ◌∙◌}
use Rattle.jd_syntax.specs.Sxs.{sx_view}
use Rattle.jd_term.specs.Formulas.{formula_view}
use Rattle.jd_tread.proofs.Deciding.{formula_formed, is_it, no_sort, too_deep, unread}
use Rattle.jd_tread.proofs.answer.answer_formula.Goals as goal

pub returns-in_default : goal.returns-in_default
returns-in_default g c =
    unread _ _ _ _ c.unread.result c.unread.ensures (sym (ap (option_map formula_view) c.in_default.is) ∙ c.in_ok-formula.ensures)

pub returns-then-not-is_sorted_formula : goal.returns-then-not-is_sorted_formula
returns-then-not-is_sorted_formula g c =
    no_sort _ _ _ _ (formula_view c.in-Some.formula) (formula_formed (g.N.NameMeanings.table c.args.names.now) (sx_view c.args.x.now) _) (sym c.in_ok-formula.ensures ∙ ap (option_map formula_view) c.in-Some.is)
    (sym c.if-not-is_sorted_formula.true ∙ c.is_sorted_formula.ensures)

pub returns-then-is_too_deep : goal.returns-then-is_too_deep
returns-then-is_too_deep g c =
    too_deep _ _ _ _ (formula_view c.in-Some.formula) (formula_formed (g.N.NameMeanings.table c.args.names.now) (sx_view c.args.x.now) _) (sym c.in_ok-formula.ensures ∙ ap (option_map formula_view) c.in-Some.is)
    (sym c.if-not-is_sorted_formula.false ∙ c.is_sorted_formula.ensures) (sym c.if-is_too_deep.true ∙ c.is_too_deep.ensures)

pub returns : goal.returns
returns g c =
    is_it _ _ _ _ (formula_view c.in-Some.formula) (formula_formed (g.N.NameMeanings.table c.args.names.now) (sx_view c.args.x.now) _) (sym c.in_ok-formula.ensures ∙ ap (option_map formula_view) c.in-Some.is)
    (sym c.if-not-is_sorted_formula.false ∙ c.is_sorted_formula.ensures) (sym c.if-is_too_deep.false ∙ c.is_too_deep.ensures)
