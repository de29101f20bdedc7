use Rattle.std.proofs.Common.{[], List, ap, map, option_map, ◌∙◌}
use Rattle.jd_syntax.specs.JavaTrees.{method_view, parameter_view}
use Rattle.jd_syntax.specs.declared.java.Parameter.{Parameter as JavaParameter}
use Rattle.jd_case_rows.specs.Rows.{spelled_for}
use Rattle.jd_jml_meaning.specs.ContractFormulas.{contract_spelling}
use Rattle.jd_jml_written.specs.Views as views
use Rattle.jd_row_makers.specs.Heads as heads
use Rattle.jd_row_makers.specs.Heads.{declared_view}
use Rattle.jd_row_makers.specs.declared.heads.Parameter.{Parameter}
use Rattle.jd_specifications.specs.WrittenCases.{contract, entries}
use Rattle.jd_case_tables.proofs.Heads.{says}
use Rattle.jd_case_tables.proofs.Lists.{made}
use Rattle.jd_case_tables.proofs.row.clauses_below.Goals as goal

pub returns-in-Ok-clause-made : goal.returns-in-Ok-clause-made
returns-in-Ok-clause-made g c = λ p b fields marks is.
    let d = g.D.Declares.declarations c.args.rows.now.declared.now in
    let tree = method_view c.args.written.tree.now in
    let case = views.case_view c.args.case.now in
    let whole = made _ _ _ c.in-Ok.is c.both-spoken.ensures in
    c.clauses_over.ensures.made p (spelled_for b (contract d c.args.written.class.0 tree case.clauses)) fields
    (says p b d c.args.written.class.0 tree case c.args.head.now _ _ is marks
    (made _ _ _ whole.0 c.method_names.ensures ∙ ap (λ (l : List JavaParameter). entries d 0 (map parameter_view l) []) c.deref.ensures.value)
    (made _ _ _ whole.1 c.spelled.ensures ∙ ap (λ (l : List Parameter). contract_spelling (map heads.parameter_view l) (option_map declared_view c.args.head.now.result)) c.deref-2.ensures.value))

pub returns-in-Ok-clause-why : goal.returns-in-Ok-clause-why
returns-in-Ok-clause-why g c = λ p b fields marks is.
    let d = g.D.Declares.declarations c.args.rows.now.declared.now in
    let tree = method_view c.args.written.tree.now in
    let case = views.case_view c.args.case.now in
    let whole = made _ _ _ c.in-Ok.is c.both-spoken.ensures in
    c.clauses_over.ensures.why p (spelled_for b (contract d c.args.written.class.0 tree case.clauses)) fields
    (says p b d c.args.written.class.0 tree case c.args.head.now _ _ is marks
    (made _ _ _ whole.0 c.method_names.ensures ∙ ap (λ (l : List JavaParameter). entries d 0 (map parameter_view l) []) c.deref.ensures.value)
    (made _ _ _ whole.1 c.spelled.ensures ∙ ap (λ (l : List Parameter). contract_spelling (map heads.parameter_view l) (option_map declared_view c.args.head.now.result)) c.deref-2.ensures.value))
