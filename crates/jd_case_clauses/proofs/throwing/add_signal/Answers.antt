use Rattle.std.proofs.Common.{◌≡◌, ◌++◌, IfErr, OnOk, map, option_map, subst, sym}
use Rattle.jd_syntax.specs.JavaTypes.{identifier_view}
use Rattle.jd_syntax.specs.SpecTrees.{clause_view, spec_view}
use Rattle.jd_syntax.specs.declared.spec.ClauseForm.{ClauseForm}
use Rattle.jd_term.specs.Formulas.{Implies, formula_view}
use Rattle.jd_case_rows.specs.Rows.{instance_of_thrown}
use Rattle.jd_jml_formulas.specs.Meant.{formula_meant}
use Rattle.jd_jml_meaning.specs.Meaning.{Now}
use Rattle.jd_specifications.specs.WrittenCases.{class_of, with_exception}
use Rattle.jd_jml_formulas.specs.Spellings.{spelling_view}
use Rattle.jd_jml_known.specs.Scopes.{known_of}
use Rattle.jd_case_clauses.specs.Said.{TellsOfOne}
use Rattle.jd_case_clauses.specs.Signals.{signalled_in}
use Rattle.jd_case_clauses.proofs.throwing.add_signal.Goals as goal

pub returns-in-Signals-clause-made : goal.returns-in-Signals-clause-made
returns-in-Signals-clause-made g c = λ p fields.
    subst (λ (f : ClauseForm). OnOk c.add.result (map formula_view c.add.new.to.items ≡ map formula_view c.args.to.now.items ++ (signalled_in p (g.D.Declares.declarations c.args.m.now.sight.declared.now) c.args.m.now.sight.class c.args.m.now.sight.result (spelling_view c.args.m.now.spelled.now) (known_of c.args.names.now)) (clause_view (record { at = c.args.c.now.at; form = f })))) (sym c.in-Signals.is)
    (c.add.ensures.made _ (c.signal.ensures.made p fields))

pub returns-in-Signals-clause-why : goal.returns-in-Signals-clause-why
returns-in-Signals-clause-why g c = λ p fields.
    let d = g.D.Declares.declarations c.args.m.now.sight.declared.now in
    let class = class_of d (identifier_view c.in-Signals.class) in
    subst (λ (f : ClauseForm). IfErr c.add.result (TellsOfOne c.args.m.now.limit ((signalled_in p (g.D.Declares.declarations c.args.m.now.sight.declared.now) c.args.m.now.sight.class c.args.m.now.sight.result (spelling_view c.args.m.now.spelled.now) (known_of c.args.names.now)) (clause_view (record { at = c.args.c.now.at; form = f }))))) (sym c.in-Signals.is)
    (c.add.ensures.of_one c.args.m.now.limit (Implies (instance_of_thrown class) (formula_meant p d c.args.m.now.sight.class c.args.m.now.sight.result (spelling_view c.args.m.now.spelled.now) Now (with_exception d (option_map identifier_view c.in-Signals.x) class (known_of c.args.names.now)) (spec_view c.in-Signals.e))) (c.signal.ensures.why p fields))
