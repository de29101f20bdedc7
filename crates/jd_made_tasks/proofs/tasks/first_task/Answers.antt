use Rattle.std.proofs.Common.{true, map, ap, ◌∙◌}
use Rattle.jd_check.specs.Building.{body_view}
use Rattle.jd_first_form.specs.Forms.{is_first_form}
use Rattle.jd_made_tasks.proofs.Whole.{form_of, program_of, refused}
use Rattle.jd_made_tasks.proofs.tasks.first_task.Goals as goal

pub returns-then-not-is_first_form : goal.returns-then-not-is_first_form
returns-then-not-is_first_form c = λ units tables files resolved q task.
    let d = resolved.bodies_.0 in
    let is = c.is_first_form.ensures units d tables files (ap (map body_view) c.deref.ensures.value ∙ resolved.bodies_.2.bodies_) resolved.specs_ in
    refused c.declarations_are_one.ensures units tables.stand d resolved.bodies_.1 c.is_first_form.result is c.if-not-is_first_form.true q task

pub of_form-requires : goal.of_form-requires
of_form-requires c =
    let units = c.requires.0 in
    let tables = c.requires.1 in
    let resolved = c.requires.3 in
    let d = resolved.bodies_.0 in
    let is = c.is_first_form.ensures units d tables c.requires.2 (ap (map body_view) c.deref.ensures.value ∙ resolved.bodies_.2.bodies_) resolved.specs_ in
    let p = program_of c.declarations_are_one.ensures c.programs_have_meanings.ensures units c.args.classes.now tables _ (c.in-Ok.ensures units tables) in
    record { units = units; program = p.0; is = p.1; classes = tables; resolved = resolved; declared = p.2; form = form_of c.declarations_are_one.ensures units tables.stand d resolved.bodies_.1 p.0 p.1 c.is_first_form.result is c.if-not-is_first_form.false }

pub returns-in-Ok : goal.returns-in-Ok
returns-in-Ok c = λ units tables files resolved.
    let d = resolved.bodies_.0 in
    let is = c.is_first_form.ensures units d tables files (ap (map body_view) c.deref.ensures.value ∙ resolved.bodies_.2.bodies_) resolved.specs_ in
    let p = program_of c.declarations_are_one.ensures c.programs_have_meanings.ensures units c.args.classes.now tables _ (c.in-Ok.ensures units tables) in
    c.of_form.ensures units p.0 p.1 tables resolved p.2 (form_of c.declarations_are_one.ensures units tables.stand d resolved.bodies_.1 p.0 p.1 c.is_first_form.result is c.if-not-is_first_form.false)
