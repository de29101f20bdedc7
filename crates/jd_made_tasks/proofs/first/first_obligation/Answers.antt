use Rattle.std.proofs.Common.{◌≡◌, [], length, map, take, sym, ap, ◌∙◌, arith}
use Rattle.std.specs.List.{slice_get}
use Rattle.std.proofs.lemmas.List.{length-map}
use Rattle.jd_syntax.specs.Names.{decl_view}
use Rattle.jd_jinfos.specs.Views.{method_info_view}
use Rattle.jd_model.specs.ContractForms.{body_view, case_view, contracts_view}
use Rattle.jd_obligation_makers.specs.Parts.{has_name}
use Rattle.jd_obligation_makers.specs.Starts.{decl_name}
use Rattle.jd_sequent.specs.Obligations.{loop_view}
use Rattle.jd_listed_tables.specs.Listed.{fields_along}
use Rattle.jd_case_obligations.specs.Listed.{case_obligation}
use Rattle.jd_made_tasks.proofs.Form.{one_body}
use Rattle.jd_made_tasks.proofs.Found.{first_there, found, names_taken, none_there}
use Rattle.jd_made_tasks.proofs.Past.{no_body, no_row}
use Rattle.jd_made_tasks.proofs.first.first_obligation.Goals as goal

pub returns-then-cases-eq0 : goal.returns-then-cases-eq0
returns-then-cases-eq0 c = λ units j is tables form tabled.
    no_row c.declarations_are_one.ensures c.programs_are_one.ensures c.listed_tables_are_made.ensures units tables.stand j is form (contracts_view c.args.contracts.now) tabled
    (none_there case_view c.args.contracts.now.cases.items (sym (ap length c.as_slice-cases.ensures.value) ∙ c.if-cases-eq0.true))

pub returns-then-bodies-eq0 : goal.returns-then-bodies-eq0
returns-then-bodies-eq0 c = λ units j is tables form tabled q task.
    absurd (no_body c.declarations_are_one.ensures c.programs_are_one.ensures c.listed_tables_are_made.ensures units tables.stand j is form (contracts_view c.args.contracts.now) tabled
    (none_there body_view c.args.contracts.now.bodies.items (sym (ap length c.as_slice-bodies.ensures.value) ∙ c.if-bodies-eq0.true)))

pub obligation-requires-clause-method : goal.obligation-requires-clause-method
obligation-requires-clause-method c =
    let r = c.requires in
    let here = found r.units r.classes.stand c.listed_tables_are_made.ensures c.frames_fit.ensures r.program r.is r.form (contracts_view c.args.contracts.now) r.tabled (case_view c.index-cases-0.result) (body_view c.index-bodies-0.result)
    (ap (λ l. slice_get (map case_view l) 0) (sym c.as_slice-cases.ensures.value) ∙ first_there case_view c.as_slice-cases.result.now c.index-cases-0.result (omega (arith, c.if-cases-eq0.false)) c.index-cases-0.is)
    (ap (λ l. slice_get (map body_view l) 0) (sym c.as_slice-bodies.ensures.value) ∙ first_there body_view c.as_slice-bodies.result.now c.index-bodies-0.result (omega (arith, c.if-bodies-eq0.false)) c.index-bodies-0.is) in
    let count : length c.args.classes.now.methods.items ≡ 1 = sym (length-map c.args.classes.now.methods.items method_info_view) ∙ ap length r.classes.methods_ ∙ (one_body r.units r.is.declarations r.form).methods in
    let method = here.method in
    omega (arith, method, count)

pub obligation-requires-clause-frame : goal.obligation-requires-clause-frame
obligation-requires-clause-frame c =
    let r = c.requires in
    let here = found r.units r.classes.stand c.listed_tables_are_made.ensures c.frames_fit.ensures r.program r.is r.form (contracts_view c.args.contracts.now) r.tabled (case_view c.index-cases-0.result) (body_view c.index-bodies-0.result)
    (ap (λ l. slice_get (map case_view l) 0) (sym c.as_slice-cases.ensures.value) ∙ first_there case_view c.as_slice-cases.result.now c.index-cases-0.result (omega (arith, c.if-cases-eq0.false)) c.index-cases-0.is)
    (ap (λ l. slice_get (map body_view l) 0) (sym c.as_slice-bodies.ensures.value) ∙ first_there body_view c.as_slice-bodies.result.now c.index-bodies-0.result (omega (arith, c.if-bodies-eq0.false)) c.index-bodies-0.is) in
    here.fits

pub returns : goal.returns
returns c = λ units j is tables form tabled.
    let f = c.index-bodies-0.result in
    let here = found units tables.stand c.listed_tables_are_made.ensures c.frames_fit.ensures j is form (contracts_view c.args.contracts.now) tabled (case_view c.index-cases-0.result) (body_view f)
    (ap (λ l. slice_get (map case_view l) 0) (sym c.as_slice-cases.ensures.value) ∙ first_there case_view c.as_slice-cases.result.now c.index-cases-0.result (omega (arith, c.if-cases-eq0.false)) c.index-cases-0.is)
    (ap (λ l. slice_get (map body_view l) 0) (sym c.as_slice-bodies.ensures.value) ∙ first_there body_view c.as_slice-bodies.result.now f (omega (arith, c.if-bodies-eq0.false)) c.index-bodies-0.is) in
    let along = fields_along units j.program.superclasses in
    let made = c.in_ok-obligation.ensures units j.program along here.case here.body tables here.row_is
    (record { outcome = here.sort; keeps = here.keeps })
    (record { receiver = sym (ap has_name here.receiver); variables = ap (λ l. map decl_name (take f.params l)) c.deref.ensures.value ∙ names_taken f.params f.vars.items ∙ here.names; code = sym here.code }) in
    record {
      program = j;
      is_program = is;
      form = form;
      classes = c.tables_are_classes.ensures units c.args.classes.now tables;
      contracts = tabled;
      case = here.case;
      first = here.first;
      body = here.body;
      runs = here.runs;
      obligation = made
          ∙ ap (λ l. case_obligation units j.program along here.case here.body (map decl_view l) (map loop_view c.new.result.items)) c.deref.ensures.value
          ∙ ap (λ l. case_obligation units j.program along here.case here.body (map decl_view f.vars.items) (map loop_view l)) c.new.ensures.items
          ∙ ap (λ l. case_obligation units j.program along here.case here.body l []) here.variables;
    }
