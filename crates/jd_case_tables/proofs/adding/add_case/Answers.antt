use Rattle.std.proofs.Common.{map}
use Rattle.jd_case_rows.specs.Rows.{spelled_for}
use Rattle.jd_jml_cases.specs.Laws.{contract_of_case}
use Rattle.jd_jml_meaning.specs.ContractFormulas.{contract_of}
use Rattle.jd_jml_written.specs.Views as views
use Rattle.jd_model.specs.ContractForms.{case_view}
use Rattle.jd_specifications.specs.WrittenCases.{contract}
use Rattle.jd_row_makers.specs.Rows.{row_with}
use Rattle.jd_case_tables.specs.Placed.{place_at, written_view}
use Rattle.jd_case_tables.proofs.Added.{none_counted, nothing_added, one_added, one_counted, one_told}
use Rattle.jd_case_tables.proofs.Placing.{no_contract, one_contract, told_none, told_some}
use Rattle.jd_case_tables.proofs.adding.add_case.Goals as goal

pub returns-in-None-clause-made : goal.returns-in-None-clause-made
returns-in-None-clause-made g c = λ units p fields b tables trees known marks names.
    let d = g.D.Declares.declarations c.args.rows.now.declared.now in
    let k = views.case_view c.args.case.now in
    let xs = contract_of_case units d k in
    let none = told_none written_view c.written_at.result (place_at units k.declared) (c.written_at.ensures units tables trees) c.in-None.is in
    nothing_added p fields b c.args.id.class.0 c.args.id.method.0 c.args.id.number xs (map case_view c.args.made.now.items) (no_contract units d k none)

pub returns-in-None-clause-number : goal.returns-in-None-clause-number
returns-in-None-clause-number g c = λ units tables trees.
    let d = g.D.Declares.declarations c.args.rows.now.declared.now in
    let k = views.case_view c.args.case.now in
    let xs = contract_of_case units d k in
    let none = told_none written_view c.written_at.result (place_at units k.declared) (c.written_at.ensures units tables trees) c.in-None.is in
    none_counted c.args.id.number xs (no_contract units d k none)

pub returns-in-Some-clause-made : goal.returns-in-Some-clause-made
returns-in-Some-clause-made g c = λ units p fields b tables trees known marks names.
    let d = g.D.Declares.declarations c.args.rows.now.declared.now in
    let k = views.case_view c.args.case.now in
    let xs = contract_of_case units d k in
    let w = written_view c.in-Some.written in
    let x = contract d w.0 w.1 k.clauses in
    let there = told_some written_view c.written_at.result (place_at units k.declared) c.in-Some.written (c.written_at.ensures units tables trees) c.in-Some.is in
    let one = one_contract units d k w there in
    one_added p fields b c.args.id.class.0 c.args.id.method.0 c.args.id.number xs c.add_row.result (map case_view c.args.made.now.items) (map case_view c.add_row.new.made.items) x one
    (c.add_row.ensures.made (row_with p fields c.args.id.method.0 c.args.id.class.0 c.args.id.number (contract_of p (spelled_for b x))) (c.row_at.ensures.made units p fields b k.declared tables known there (marks.0 w there) names))

pub returns-in-Some-clause-number : goal.returns-in-Some-clause-number
returns-in-Some-clause-number g c = λ units tables trees.
    let d = g.D.Declares.declarations c.args.rows.now.declared.now in
    let k = views.case_view c.args.case.now in
    let xs = contract_of_case units d k in
    let w = written_view c.in-Some.written in
    let x = contract d w.0 w.1 k.clauses in
    let there = told_some written_view c.written_at.result (place_at units k.declared) c.in-Some.written (c.written_at.ensures units tables trees) c.in-Some.is in
    let one = one_contract units d k w there in
    one_counted c.add_row.result c.args.id.number xs x one c.add_row.ensures.number

pub returns-in-Some-clause-why : goal.returns-in-Some-clause-why
returns-in-Some-clause-why g c = λ units p fields b tables trees known marks names.
    let d = g.D.Declares.declarations c.args.rows.now.declared.now in
    let k = views.case_view c.args.case.now in
    let xs = contract_of_case units d k in
    let w = written_view c.in-Some.written in
    let x = contract d w.0 w.1 k.clauses in
    let there = told_some written_view c.written_at.result (place_at units k.declared) c.in-Some.written (c.written_at.ensures units tables trees) c.in-Some.is in
    let one = one_contract units d k w there in
    one_told c.args.rows.now.limit p b c.add_row.result xs x one
    (c.add_row.ensures.why c.args.rows.now.limit (contract_of p (spelled_for b x)) (c.row_at.ensures.why units p fields b tables known (marks.0 w there) names))
