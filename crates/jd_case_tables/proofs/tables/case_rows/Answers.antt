use Rattle.std.proofs.Common.{◌≡◌, List, IfErr, IfOk, ap, flat_map, map, subst, sym, ◌∙◌}
use Rattle.jd_bodies.specs.Declarations.{AreDeclarations}
use Rattle.jd_check.specs.Building.{body_view}
use Rattle.jd_jml_cases.specs.Trees.{AreTrees}
use Rattle.jd_jml_meaning.specs.JmlCases.{JmlCase}
use Rattle.jd_jmlcheck.specs.Views.{method_spec_view}
use Rattle.jd_listed_tables.specs.Listed.{fields_along, rows_of}
use Rattle.jd_model.specs.ContractForms.{case_view}
use Rattle.jd_case_tables.specs.Large.{TellsOfCases}
use Rattle.jd_case_tables.specs.Running.{all_runs, cases_of_run, run_view}
use Rattle.jd_case_tables.proofs.Known.{known, listed}
use Rattle.jd_case_tables.proofs.Lists.{made}
use Rattle.jd_case_tables.proofs.Ordered.{in_order, same_lineage}
use Rattle.jd_case_tables.proofs.tables.case_rows.Goals as goal

pub returns-in-Ok-clause-made : goal.returns-in-Ok-clause-made
returns-in-Ok-clause-made g c = λ units j is tables same specified built.
    let d = g.D.Declares.declarations c.args.d.now in
    let p = j.program in
    let up = c.lineages_are_classes_up.ensures in
    let are = subst (AreDeclarations units) same is.are_declarations in
    let both = made _ _ _ c.in-Ok.is c.both.ensures in
    let trees : AreTrees units c.deref.result.now = subst (AreTrees units) (sym c.deref.ensures.value) (made _ _ _ both.0 (c.method_trees.ensures units tables)) in
    let runs : map run_view c.deref-in-Ok.result.now ≡ all_runs units d = ap (map run_view) c.deref-in-Ok.ensures.value ∙ made _ _ _ both.1 (c.runs.ensures units tables are) in
    let written = c.cases_are_contracts.ensures.written in
    let law = c.cases_are_contracts.ensures.cases in
    let those = c.inherited_cases_are_those.ensures in
    let methods = c.seen_methods_are_methods.ensures in
    let lineages = same_lineage units d written law those methods tables.stand are p is.classes up in
    let seen = known units tables.stand j is lineages c.fields_have_sorts.ensures d same in
    let lists = listed units tables.stand j is lineages c.bodies_begin_with_parameters.ensures d same (map method_spec_view c.args.specs.now) (map body_view c.args.bodies.now) specified built in
    let order = ap (flat_map (cases_of_run units d)) runs ∙ sym (in_order units d written law those methods tables.stand are p is.classes up) in
    subst (λ (cs : List JmlCase). IfOk c.rows_for.result (λ v. map case_view v.items ≡ rows_of p (fields_along units p.superclasses) cs)) order
    (c.rows_for.ensures.made units p (fields_along units p.superclasses) tables trees seen lists)

pub returns-in-Ok-clause-why : goal.returns-in-Ok-clause-why
returns-in-Ok-clause-why g c = λ units j is tables same specified built.
    let d = g.D.Declares.declarations c.args.d.now in
    let p = j.program in
    let up = c.lineages_are_classes_up.ensures in
    let are = subst (AreDeclarations units) same is.are_declarations in
    let both = made _ _ _ c.in-Ok.is c.both.ensures in
    let trees : AreTrees units c.deref.result.now = subst (AreTrees units) (sym c.deref.ensures.value) (made _ _ _ both.0 (c.method_trees.ensures units tables)) in
    let runs : map run_view c.deref-in-Ok.result.now ≡ all_runs units d = ap (map run_view) c.deref-in-Ok.ensures.value ∙ made _ _ _ both.1 (c.runs.ensures units tables are) in
    let written = c.cases_are_contracts.ensures.written in
    let law = c.cases_are_contracts.ensures.cases in
    let those = c.inherited_cases_are_those.ensures in
    let methods = c.seen_methods_are_methods.ensures in
    let lineages = same_lineage units d written law those methods tables.stand are p is.classes up in
    let seen = known units tables.stand j is lineages c.fields_have_sorts.ensures d same in
    let lists = listed units tables.stand j is lineages c.bodies_begin_with_parameters.ensures d same (map method_spec_view c.args.specs.now) (map body_view c.args.bodies.now) specified built in
    let order = ap (flat_map (cases_of_run units d)) runs ∙ sym (in_order units d written law those methods tables.stand are p is.classes up) in
    subst (λ (cs : List JmlCase). IfErr c.rows_for.result (TellsOfCases c.args.limit p cs)) order
    (c.rows_for.ensures.why units p (fields_along units p.superclasses) tables trees seen lists)
