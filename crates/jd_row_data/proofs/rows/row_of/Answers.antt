use Rattle.std.proofs.Common.{IfOk, subst, sym, ◌≡◌}
use Rattle.jd_schema_trees.specs.TacletViews.{taclet}
use Rattle.jd_row_data.specs.Data.{row_data}
use Rattle.jd_row_data.proofs.rows.row_of.Goals as goal

pub returns-in-LeftRow : goal.returns-in-LeftRow
returns-in-LeftRow c = subst (λ r. IfOk c.whole.result (λ x. taclet x ≡ row_data r)) (sym c.in-LeftRow.is) (c.whole.ensures _ _ c.formula_find.ensures c.goals.ensures)

pub returns-in-RightRow : goal.returns-in-RightRow
returns-in-RightRow c = subst (λ r. IfOk c.whole-in-RightRow.result (λ x. taclet x ≡ row_data r)) (sym c.in-RightRow.is) (c.whole-in-RightRow.ensures _ _ c.formula_find-in-RightRow.ensures c.goals-in-RightRow.ensures)

pub returns-in-FormulaRow : goal.returns-in-FormulaRow
returns-in-FormulaRow c =
    subst (λ r. IfOk c.whole-in-FormulaRow.result (λ x. taclet x ≡ row_data r)) (sym c.in-FormulaRow.is)
    (c.whole-in-FormulaRow.ensures _ _ c.formula_find-in-FormulaRow.ensures (c.one_goal.ensures _ c.formula_find-in-FormulaRow-2.ensures))

pub returns-in-TermRow : goal.returns-in-TermRow
returns-in-TermRow c =
    subst (λ r. IfOk c.whole-in-TermRow.result (λ x. taclet x ≡ row_data r)) (sym c.in-TermRow.is)
    (c.whole-in-TermRow.ensures _ _ c.term_find.ensures (c.one_goal-in-TermRow.ensures _ c.term_find-in-TermRow.ensures))
