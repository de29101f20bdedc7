use Rattle.std.proofs.Common.{◌≡◌, ◌++◌, IfErr, OnOk, ap, map, option_map, subst, sym, ◌∙◌}
use Rattle.std.specs.Borrow.{Bor}
use Rattle.jd_syntax.specs.SpecTrees.{spec_view}
use Rattle.jd_syntax.specs.declared.spec.SpecExpr.{SpecExpr}
use Rattle.jd_term.specs.Formulas.{formula_view}
use Rattle.jd_jml_formulas.specs.Meant.{formula_meant}
use Rattle.jd_jml_formulas.specs.Spellings.{spelling_view, when_view}
use Rattle.jd_case_clauses.specs.Said.{TellsOfOne}
use Rattle.jd_case_clauses.proofs.Large.{one_said}
use Rattle.jd_case_clauses.proofs.said.add_said.Goals as goal

pub returns-in-Some-clause-made : goal.returns-in-Some-clause-made
returns-in-Some-clause-made g c = λ p fields.
    let made = formula_meant p (g.D.Declares.declarations c.args.m.now.sight.declared.now) c.args.m.now.sight.class c.args.m.now.sight.result (spelling_view c.args.m.now.spelled.now) (when_view c.args.t) in
    subst (λ l. OnOk c.add.result (map formula_view c.add.new.to.items ≡ map formula_view c.args.to.now.items ++ l))
    (one_said made _ _ _ (spec_view c.in-Some.e.now) c.of_method-scope.ensures (sym (ap (option_map (λ (e : Bor SpecExpr). spec_view e.now)) c.in-Some.is) ∙ c.said.ensures))
    (c.add.ensures.made _ (c.formula.ensures.made p fields))

pub returns-in-Some-clause-why : goal.returns-in-Some-clause-why
returns-in-Some-clause-why g c = λ p fields.
    let made = formula_meant p (g.D.Declares.declarations c.args.m.now.sight.declared.now) c.args.m.now.sight.class c.args.m.now.sight.result (spelling_view c.args.m.now.spelled.now) (when_view c.args.t) in
    subst (λ l. IfErr c.add.result (TellsOfOne c.args.m.now.limit l))
    (one_said made _ _ _ (spec_view c.in-Some.e.now) c.of_method-scope.ensures (sym (ap (option_map (λ (e : Bor SpecExpr). spec_view e.now)) c.in-Some.is) ∙ c.said.ensures))
    (c.add.ensures.why c.args.m.now.limit _ (c.formula.ensures.why p fields))
