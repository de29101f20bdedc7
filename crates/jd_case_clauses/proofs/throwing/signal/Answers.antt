use Rattle.std.proofs.Common.{◌≡◌, ℕ, [], ◌∷◌, List, IfErr, IfOk, Option, ap, option_map, subst, ◌∙◌}
use Rattle.jd_syntax.specs.JavaTypes.{identifier_view}
use Rattle.jd_syntax.specs.SpecTrees.{spec_view}
use Rattle.jd_syntax.specs.declared.java.Identifier.{Identifier}
use Rattle.jd_term.specs.Formulas.{Implies, PlainFormula, formula_view}
use Rattle.jd_case_rows.specs.Rows.{instance_of_thrown}
use Rattle.jd_jml_formulas.specs.Meant.{formula_meant}
use Rattle.jd_jml_formulas.specs.Spellings.{spelling_view}
use Rattle.jd_jml_known.specs.Scopes.{known_of}
use Rattle.jd_jml_meaning.specs.Meaning.{Now}
use Rattle.jd_specifications.specs.Resolution.{Entry}
use Rattle.jd_specifications.specs.WrittenCases.{with_exception}
use Rattle.jd_case_clauses.specs.Said.{TellsOfOne}
use Rattle.jd_case_clauses.proofs.throwing.signal.Goals as goal

pub returns-clause-made : goal.returns-clause-made
returns-clause-made g c = λ p fields.
    let d = g.D.Declares.declarations c.args.m.now.sight.declared.now in
    let stated = λ (k : ℕ) (es : List Entry). Implies (instance_of_thrown k) (formula_meant p d c.args.m.now.sight.class c.args.m.now.sight.result (spelling_view c.args.m.now.spelled.now) Now es (spec_view c.args.e.now)) in
    subst (λ y. IfOk c.implied.result (λ f. formula_view f ≡ y))
    (ap (stated c.class_of-class.result.0) (c.caught-scope.ensures ∙ ap (λ (o : Option Identifier). with_exception d (option_map identifier_view o) c.class_of-class.result.0 (known_of c.args.names.now)) c.as_ref.ensures.value)
    ∙ ap (λ (k : ℕ). stated k (with_exception d (option_map identifier_view c.args.x.now) k (known_of c.args.names.now))) c.class_of-class.ensures)
    (c.implied.ensures.made _ (c.formula.ensures.made p fields))

pub returns-clause-why : goal.returns-clause-why
returns-clause-why g c = λ p fields.
    let d = g.D.Declares.declarations c.args.m.now.sight.declared.now in
    let stated = λ (k : ℕ) (es : List Entry). Implies (instance_of_thrown k) (formula_meant p d c.args.m.now.sight.class c.args.m.now.sight.result (spelling_view c.args.m.now.spelled.now) Now es (spec_view c.args.e.now)) in
    subst (λ (y : PlainFormula). IfErr c.implied.result (TellsOfOne c.args.m.now.limit (y ∷ [])))
    (ap (stated c.class_of-class.result.0) (c.caught-scope.ensures ∙ ap (λ (o : Option Identifier). with_exception d (option_map identifier_view o) c.class_of-class.result.0 (known_of c.args.names.now)) c.as_ref.ensures.value)
    ∙ ap (λ (k : ℕ). stated k (with_exception d (option_map identifier_view c.args.x.now) k (known_of c.args.names.now))) c.class_of-class.ensures)
    (c.implied.ensures.why c.args.m.now.limit _ (c.formula.ensures.why p fields))
