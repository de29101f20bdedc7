use Rattle.std.proofs.Common.{◌∙◌, sym, ap}
use Rattle.jd_syntax.specs.CodeViews.{code_view}
use Rattle.jd_term.specs.Formulas.{formula_view}
use Rattle.jd_patterns.specs.Matching.{match_formula}
use Rattle.jd_schema_trees.specs.CodeViews.{stmt_pattern, code_pattern}
use Rattle.jd_schema_trees.specs.FormulaViews.{formula_pattern}
use Rattle.jd_schema_matching.specs.PartViews.{bindings}
use Rattle.jd_schema_matching.specs.Tested.{tests}
use Rattle.jd_formula_matching.proofs.Going.{focused, at_focus, goes_on, ends}
use Rattle.jd_formula_matching.proofs.formulas.+match_formula.Goals as goal

pub returns-in_ok-match_formula-in-Modal-f : goal.returns-in_ok-match_formula-in-Modal-f
returns-in_ok-match_formula-in-Modal-f t c = goes_on c.in_ok-match_focused-in-Modal-f.field-0 c.in_ok-match_formula-in-Modal-f.field-0 (bindings c.match_focused.new.found) (bindings c.match_formula-then-branch-13.new.found) (focused c.in-Focus.n.items c.in-Focus.k.items (stmt_pattern c.in-Then.s.value) c.in-Modal-f.m (code_view c.in-Modal-f.d) (bindings c.args.found.now)) (match_formula tests (formula_pattern c.args.p.now) (formula_view c.args.f.now) (bindings c.args.found.now)) (match_formula tests (formula_pattern c.in-Focus.p.value) (formula_view c.in-Modal-f.a.value)) c.if-branch-13.true (c.in_ok-match_focused-in-Modal-f.ensures ∙ ap (λ x. focused x c.deref-in-Modal-f-2.result.now (stmt_pattern c.deref-in-Modal-f-3.result.now) c.in-Modal-f.m (code_view c.in-Modal-f.d) (bindings c.args.found.now)) c.deref-in-Modal-f.ensures.value ∙ ap (λ x. focused c.in-Focus.n.items x (stmt_pattern c.deref-in-Modal-f-3.result.now) c.in-Modal-f.m (code_view c.in-Modal-f.d) (bindings c.args.found.now)) c.deref-in-Modal-f-2.ensures.value ∙ ap (λ x. focused c.in-Focus.n.items c.in-Focus.k.items (stmt_pattern x) c.in-Modal-f.m (code_view c.in-Modal-f.d) (bindings c.args.found.now)) c.deref-in-Modal-f-3.ensures) (c.in_ok-match_formula-in-Modal-f.ensures ∙ ap (λ x. match_formula tests (formula_pattern x) (formula_view c.deref-then-branch-13-2.result.now) (bindings c.match_focused.new.found)) c.deref-then-branch-13.ensures ∙ ap (λ x. match_formula tests (formula_pattern c.in-Focus.p.value) (formula_view x) (bindings c.match_focused.new.found)) c.deref-then-branch-13-2.ensures) (at_focus (formula_pattern c.args.p.now) (formula_pattern c.in-Focus.p.value) (formula_view c.args.f.now) (formula_view c.in-Modal-f.a.value) c.in-Focus.n.items c.in-Focus.k.items (code_pattern c.in-Focus.c) (code_pattern c.in-Then.rest.value) (stmt_pattern c.in-Then.s.value) c.in-Modal-f.m (code_view c.in-Modal-f.d) (bindings c.args.found.now) (ap formula_pattern c.in-Focus.is) (ap code_pattern c.in-Then.is) (ap code_pattern (sym c.deref-in-Then.ensures ∙ c.in-Done.is)) (ap formula_view c.in-Modal-f.is))

pub returns-else-branch-13 : goal.returns-else-branch-13
returns-else-branch-13 t c = ends c.in_ok-match_focused-in-Modal-f.field-0 (bindings c.match_focused.new.found) (focused c.in-Focus.n.items c.in-Focus.k.items (stmt_pattern c.in-Then.s.value) c.in-Modal-f.m (code_view c.in-Modal-f.d) (bindings c.args.found.now)) (match_formula tests (formula_pattern c.args.p.now) (formula_view c.args.f.now) (bindings c.args.found.now)) (match_formula tests (formula_pattern c.in-Focus.p.value) (formula_view c.in-Modal-f.a.value)) c.if-branch-13.false (c.in_ok-match_focused-in-Modal-f.ensures ∙ ap (λ x. focused x c.deref-in-Modal-f-2.result.now (stmt_pattern c.deref-in-Modal-f-3.result.now) c.in-Modal-f.m (code_view c.in-Modal-f.d) (bindings c.args.found.now)) c.deref-in-Modal-f.ensures.value ∙ ap (λ x. focused c.in-Focus.n.items x (stmt_pattern c.deref-in-Modal-f-3.result.now) c.in-Modal-f.m (code_view c.in-Modal-f.d) (bindings c.args.found.now)) c.deref-in-Modal-f-2.ensures.value ∙ ap (λ x. focused c.in-Focus.n.items c.in-Focus.k.items (stmt_pattern x) c.in-Modal-f.m (code_view c.in-Modal-f.d) (bindings c.args.found.now)) c.deref-in-Modal-f-3.ensures) (at_focus (formula_pattern c.args.p.now) (formula_pattern c.in-Focus.p.value) (formula_view c.args.f.now) (formula_view c.in-Modal-f.a.value) c.in-Focus.n.items c.in-Focus.k.items (code_pattern c.in-Focus.c) (code_pattern c.in-Then.rest.value) (stmt_pattern c.in-Then.s.value) c.in-Modal-f.m (code_view c.in-Modal-f.d) (bindings c.args.found.now) (ap formula_pattern c.in-Focus.is) (ap code_pattern c.in-Then.is) (ap code_pattern (sym c.deref-in-Then.ensures ∙ c.in-Done.is)) (ap formula_view c.in-Modal-f.is))
