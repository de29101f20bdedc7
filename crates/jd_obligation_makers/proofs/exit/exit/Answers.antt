use Rattle.std.proofs.Common.{ap, map, subst, sym, ◌∙◌}
use Rattle.jd_term.specs.Formulas.{formula_view, Implies, Not}
use Rattle.jd_term.specs.Makers.{GivesFormula}
use Rattle.jd_term.specs.TermViews.{loc_view}
use Rattle.jd_model.specs.Conjunctions.{conjunction}
use Rattle.jd_oblig.specs.CaseObligations.{none_thrown}
use Rattle.jd_obligation_makers.specs.Exits.{end_members}
use Rattle.jd_obligation_makers.proofs.exit.exit.Goals as goal

pub returns : goal.returns
returns c = λ o keeps normal exceptional.
    subst (λ k. GivesFormula c.all_of.result (conjunction (end_members (Implies none_thrown (conjunction o.normal)) (Implies (Not none_thrown) (conjunction o.exceptional)) k (loc_view c.args.row.now.frame)))) (sym keeps)
    (c.all_of.ensures _ (c.ended.ensures _ _ (c.normal.ensures o.normal (ap (map formula_view) c.deref.ensures.value ∙ normal)) (c.exceptional.ensures o.exceptional (ap (map formula_view) c.deref-2.ensures.value ∙ exceptional))))
