use Rattle.std.proofs.Common.{◌≡◌, IfErr, IfOk, map, subst}
use Rattle.jd_model.specs.ContractForms.{invariant_view}
use Rattle.jd_jml_known.specs.Members.{FieldsHaveSorts}
use Rattle.jd_jmlcheck.specs.Views.{specs_view}
use Rattle.jd_body_tables.specs.Invariants.{TellsOfInvariants}
use Rattle.jd_body_tables.proofs.InvariantRows.{are_listed}
use Rattle.jd_body_tables.proofs.invariants.invariant_rows.Goals as goal

pub returns-clause-made : goal.returns-clause-made
returns-clause-made g c = λ units j is are specs declared.
    subst (λ l. IfOk c.all_rows.result (λ v. map invariant_view v.items ≡ l)) (are_listed c.invariants_are_resolved.ensures units are j is _ (specs_view c.args.specs.now) declared specs)
    (c.all_rows.ensures.made j.program (subst (λ d. FieldsHaveSorts d j.program) declared (c.fields_have_sorts.ensures units j is)))

pub returns-clause-why : goal.returns-clause-why
returns-clause-why g c = λ units j is are specs declared.
    subst (λ l. IfErr c.all_rows.result (TellsOfInvariants c.args.limit l)) (are_listed c.invariants_are_resolved.ensures units are j is _ (specs_view c.args.specs.now) declared specs)
    (c.all_rows.ensures.why j.program (subst (λ d. FieldsHaveSorts d j.program) declared (c.fields_have_sorts.ensures units j is)))
