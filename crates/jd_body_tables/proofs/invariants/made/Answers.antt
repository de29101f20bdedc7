use Rattle.std.proofs.Common.{◌≡◌, IfErr, IfOk, List, ap, subst, ◌∙◌}
use Rattle.jd_syntax.specs.SpecTrees.{spec_view}
use Rattle.jd_term.specs.Formulas.{PlainFormula, formula_view}
use Rattle.jd_term.specs.FormulaSizes.{formula_size}
use Rattle.jd_bodies.specs.declared.value.ValueType.{ValueType}
use Rattle.jd_bodies.specs.declared.value.ValueType.TheVariants.{Missing}
use Rattle.jd_jml_meaning.specs.InvariantFormulas.{invariant_spelling}
use Rattle.jd_jml_meaning.specs.Meaning.{Now}
use Rattle.jd_jml_meaning.specs.Translation.{Spelling}
use Rattle.jd_specifications.specs.Resolution.{Entry}
use Rattle.jd_jml_formulas.specs.Limits.{Tells}
use Rattle.jd_jml_formulas.specs.Meant.{formula_meant}
use Rattle.jd_jml_formulas.specs.Spellings.{spelling_view}
use Rattle.jd_jml_known.specs.Scopes.{visible}
use Rattle.jd_body_tables.proofs.invariants.made.Goals as goal

pub returns-clause-made : goal.returns-clause-made
returns-clause-made g c = λ p fields.
    let stated = λ (r : ValueType) (s : Spelling) (es : List Entry). formula_meant p (g.D.Declares.declarations c.args.m.now.sight.declared.now) c.args.m.now.sight.class r s Now es (spec_view c.args.e.now) in
    subst (λ (y : PlainFormula). IfOk c.formula.result (λ f. formula_view f ≡ y))
    (ap (λ r. stated r (spelling_view c.args.m.now.spelled.now) (visible c.no_names-scope.result)) c.requires.result ∙ ap (λ s. stated Missing s (visible c.no_names-scope.result)) c.requires.terms ∙ ap (stated Missing invariant_spelling) c.no_names-scope.ensures)
    (c.formula.ensures.made p fields)

pub returns-clause-why : goal.returns-clause-why
returns-clause-why g c = λ p fields.
    let stated = λ (r : ValueType) (s : Spelling) (es : List Entry). formula_meant p (g.D.Declares.declarations c.args.m.now.sight.declared.now) c.args.m.now.sight.class r s Now es (spec_view c.args.e.now) in
    subst (λ (y : PlainFormula). IfErr c.formula.result (Tells c.args.m.now.limit (formula_size y)))
    (ap (λ r. stated r (spelling_view c.args.m.now.spelled.now) (visible c.no_names-scope.result)) c.requires.result ∙ ap (λ s. stated Missing s (visible c.no_names-scope.result)) c.requires.terms ∙ ap (stated Missing invariant_spelling) c.no_names-scope.ensures)
    (c.formula.ensures.why p fields)
