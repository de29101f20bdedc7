use Rattle.std.proofs.Common.{inr, ⊎_elim, map, ap, ◌∙◌}
use Rattle.jd_bodies.specs.Bodies as made
use Rattle.jd_check.specs.Building.{body_view}
use Rattle.jd_jmlcheck.specs.Specified.{PlainSpecs}
use Rattle.jd_jmlcheck.specs.Views.{method_spec_view}
use Rattle.jd_made_tasks.proofs.Tables.{at_err, at_ok, of_cases, of_memory, tables_made}
use Rattle.jd_made_tasks.proofs.contracts.contracts.Goals as goal

pub returns-in-Ok-clause-made : goal.returns-in-Ok-clause-made
returns-in-Ok-clause-made g c = λ units j is tables resolved same.
    let e = g.D.Declares.declarations c.args.d.now in
    let specs = ap (map method_spec_view) c.deref.ensures.value ∙ ap (λ (s : PlainSpecs). s.methods) resolved.specs_ in
    let d = resolved.bodies_.0 in
    let whose = c.declarations_are_one.ensures units tables.stand d is.declarations resolved.bodies_.1 is.are_declarations in
    let bodies = resolved.bodies_.2.bodies_ in
    let told = c.in-Ok.ensures.made in
    tables_made units is.declarations e j.program j.own _ _ _ same
    (at_ok _ _ _ told.0 (c.case_rows-cases.ensures.made units j is tables same specs (ap (map body_view) c.deref-2.ensures.value ∙ bodies ∙ ap (λ x. made.bodies x units) (whose ∙ same))))
    (at_ok _ _ _ told.1 (c.invariant_rows-invariants.ensures.made units j is tables.stand resolved.specs_ same))
    (at_ok _ _ _ (at_ok _ _ _ told.2 c.kept-bodies.ensures.made) (c.body_rows.ensures units is.declarations j.program j.own tables (ap (map body_view) c.deref-3.ensures.value ∙ bodies ∙ ap (λ x. made.bodies x units) whose)))

pub returns-in-Err-clause-why : goal.returns-in-Err-clause-why
returns-in-Err-clause-why g c = λ units j is tables resolved same.
    let e = g.D.Declares.declarations c.args.d.now in
    let u = c.in-Err.cause in
    let specs = ap (map method_spec_view) c.deref.ensures.value ∙ ap (λ (s : PlainSpecs). s.methods) resolved.specs_ in
    let d = resolved.bodies_.0 in
    let whose = c.declarations_are_one.ensures units tables.stand d is.declarations resolved.bodies_.1 is.are_declarations in
    let bodies = resolved.bodies_.2.bodies_ in
    ⊎_elim
    (λ is_err. of_cases units j is e same u (at_err _ _ u is_err (c.case_rows-cases.ensures.why units j is tables same specs (ap (map body_view) c.deref-2.ensures.value ∙ bodies ∙ ap (λ x. made.bodies x units) (whose ∙ same)))))
    (λ rest. ⊎_elim
    (λ is_err. inr (at_err _ _ u is_err (c.invariant_rows-invariants.ensures.why units j is tables.stand resolved.specs_ same)))
    (λ is_err. of_memory units j is e same u (at_err _ _ u is_err c.kept-bodies.ensures.why)) rest)
    c.in-Err.ensures.why
