use Rattle.std.proofs.Common.{◌≡◌, ◌++◌, List, IfErr, OnOk, ap, flat_map, map, subst, sym, ◌∙◌, append-nil}
use Rattle.jd_jml_cases.specs.Cases.{lineage}
use Rattle.jd_jml_cases.specs.Laws.{contract_of_case}
use Rattle.jd_jml_written.specs.Marked.{PlainCase}
use Rattle.jd_model.specs.ContractForms.{case_view}
use Rattle.jd_case_tables.specs.Large.{TellsOfContracts}
use Rattle.jd_case_tables.specs.Numbered.{rows_from}
use Rattle.jd_case_tables.specs.Placed.{MarksStand, place_at, written_view}
use Rattle.jd_case_tables.specs.Running.{contracts_at}
use Rattle.jd_case_tables.proofs.Added.{parameters_named}
use Rattle.jd_case_tables.proofs.Numbering.{cause_numbered, with_body, without_body}
use Rattle.jd_case_tables.proofs.Placing.{told_none, told_some}
use Rattle.jd_case_tables.proofs.adding.add_run.Goals as goal

pub returns-in-None-clause-made : goal.returns-in-None-clause-made
returns-in-None-clause-made g c = λ units p fields tables trees known listed.
    let d = g.D.Declares.declarations c.args.rows.now.declared.now in
    let m = c.args.run.now.method.0 in
    let old = map case_view c.args.made.now.items in
    let none = told_none written_view c.written_at.result (place_at units m) (c.written_at.ensures units tables trees) c.in-None.is in
    sym (append-nil old) ∙ ap (λ l. old ++ l) (sym (without_body p fields units (lineage units) d (λ k. k) c.args.run.now.class.0 m (listed.no_body m none) 1 (contracts_at units d m)))

pub returns-in-Some-clause-made : goal.returns-in-Some-clause-made
returns-in-Some-clause-made g c = λ units p fields tables trees known listed.
    let d = g.D.Declares.declarations c.args.rows.now.declared.now in
    let m = c.args.run.now.method.0 in
    let class = c.args.run.now.class.0 in
    let w = written_view c.in-Some.written in
    let there = told_some written_view c.written_at.result (place_at units m) c.in-Some.written (c.written_at.ensures units tables trees) c.in-Some.is in
    let runs = listed.runs m w there in
    let names = runs.2 ∙ parameters_named w.1 c.variables_at.result.now c.parameters_among.result.now _ c.variables_at.ensures c.parameters_among.ensures in
    let cases = c.cases_at.ensures ∙ listed.cases m in
    let marks = subst (MarksStand units) (sym cases) (listed.marks m) in
    subst (λ l. OnOk c.add_cases.result (map case_view c.add_cases.new.made.items ≡ map case_view c.args.made.now.items ++ l))
    (ap (λ (ks : List PlainCase). rows_from p fields runs.0 class m 1 (flat_map (contract_of_case units d) ks)) cases ∙ sym (with_body p fields units (lineage units) d (λ k. k) class m runs.0 runs.1 1 (contracts_at units d m)))
    (c.add_cases.ensures.made units p fields runs.0 tables trees known marks names)

pub returns-in-Some-clause-why : goal.returns-in-Some-clause-why
returns-in-Some-clause-why g c = λ units p fields tables trees known listed.
    let d = g.D.Declares.declarations c.args.rows.now.declared.now in
    let m = c.args.run.now.method.0 in
    let class = c.args.run.now.class.0 in
    let w = written_view c.in-Some.written in
    let there = told_some written_view c.written_at.result (place_at units m) c.in-Some.written (c.written_at.ensures units tables trees) c.in-Some.is in
    let runs = listed.runs m w there in
    let names = runs.2 ∙ parameters_named w.1 c.variables_at.result.now c.parameters_among.result.now _ c.variables_at.ensures c.parameters_among.ensures in
    let cases = c.cases_at.ensures ∙ listed.cases m in
    let marks = subst (MarksStand units) (sym cases) (listed.marks m) in
    cause_numbered c.args.rows.now.limit p units (lineage units) d (λ k. k) class m runs.0 runs.1 (contracts_at units d m) c.add_cases.result
    (subst (λ (ks : List PlainCase). IfErr c.add_cases.result (TellsOfContracts c.args.rows.now.limit p runs.0 (flat_map (contract_of_case units d) ks))) cases (c.add_cases.ensures.why units p fields runs.0 tables trees known marks names))
