use Rattle.jd_syntax.specs.JavaTrees.{method_view}
use Rattle.jd_jml_written.specs.Views as views
use Rattle.jd_case_tables.specs.Spelled.{contract_for}
use Rattle.jd_case_tables.proofs.Lists.{made}
use Rattle.jd_case_tables.proofs.row.case_row.Goals as goal

pub returns-in-Ok-clause-made : goal.returns-in-Ok-clause-made
returns-in-Ok-clause-made g c = λ p own b fields thrown marks names are.
    let d = g.D.Declares.declarations c.args.rows.now.declared.now in
    let k = contract_for p b d c.args.written.class.0 (method_view c.args.written.tree.now) (views.case_view c.args.case.now) in
    let said = made _ _ _ c.in-Ok.is (c.head.ensures p b marks names) in
    c.formed.ensures.made p own k thrown said are (c.clauses_below.ensures.made p b fields marks said)

pub returns-in-Ok-clause-why : goal.returns-in-Ok-clause-why
returns-in-Ok-clause-why g c = λ p b fields marks names.
    let d = g.D.Declares.declarations c.args.rows.now.declared.now in
    let k = contract_for p b d c.args.written.class.0 (method_view c.args.written.tree.now) (views.case_view c.args.case.now) in
    let said = made _ _ _ c.in-Ok.is (c.head.ensures p b marks names) in
    c.formed.ensures.why k (c.clauses_below.ensures.why p b fields marks said)
