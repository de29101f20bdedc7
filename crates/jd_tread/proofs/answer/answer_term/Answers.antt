use Rattle.std.proofs.Common.{option_map, sym, ap, ◌∙◌}
use Rattle.jd_syntax.specs.Sxs.{sx_view}
use Rattle.jd_term.specs.TermViews.{term_view}
use Rattle.jd_tread.proofs.Deciding.{term_formed, is_it, no_sort, too_deep, unread}
use Rattle.jd_tread.proofs.answer.answer_term.Goals as goal

pub returns-in_default : goal.returns-in_default
returns-in_default g c =
    unread _ _ _ _ c.unread.result c.unread.ensures (sym (ap (option_map term_view) c.in_default.is) ∙ c.in_ok-term.ensures)

pub returns-then-not-is_of : goal.returns-then-not-is_of
returns-then-not-is_of g c =
    no_sort _ _ _ _ (term_view c.in-Some.term) (term_formed (g.N.NameMeanings.table c.args.names.now) (sx_view c.args.x.now) _) (sym c.in_ok-term.ensures ∙ ap (option_map term_view) c.in-Some.is)
    (sym c.if-not-is_of.true ∙ c.is_of.ensures)

pub returns-then-is_deep_term : goal.returns-then-is_deep_term
returns-then-is_deep_term g c =
    too_deep _ _ _ _ (term_view c.in-Some.term) (term_formed (g.N.NameMeanings.table c.args.names.now) (sx_view c.args.x.now) _) (sym c.in_ok-term.ensures ∙ ap (option_map term_view) c.in-Some.is)
    (sym c.if-not-is_of.false ∙ c.is_of.ensures) (sym c.if-is_deep_term.true ∙ c.is_deep_term.ensures)

pub returns : goal.returns
returns g c =
    is_it _ _ _ _ (term_view c.in-Some.term) (term_formed (g.N.NameMeanings.table c.args.names.now) (sx_view c.args.x.now) _) (sym c.in_ok-term.ensures ∙ ap (option_map term_view) c.in-Some.is)
    (sym c.if-not-is_of.false ∙ c.is_of.ensures) (sym c.if-is_deep_term.false ∙ c.is_deep_term.ensures)
