use Rattle.jd_task_classes.specs.Classes.{classes_view}
use Rattle.jd_made_tasks.proofs.Past.{past}
use Rattle.jd_made_tasks.proofs.tasks.of_form.Goals as goal

pub with_contracts-requires : goal.with_contracts-requires
with_contracts-requires g c =
    let r = c.requires in
    record { units = r.units; program = r.program; is = r.is; classes = r.classes; form = r.form; tabled = c.in-Ok.ensures.made r.units r.program r.is r.classes r.resolved r.declared }

pub returns-in-Ok : goal.returns-in-Ok
returns-in-Ok g c = λ units j is tables resolved same form. c.with_contracts.ensures units j is tables form (c.in-Ok.ensures.made units j is tables resolved same)

pub returns-in-Err-TooLarge : goal.returns-in-Err-TooLarge
returns-in-Err-TooLarge g c = λ units j is tables resolved same form.
    past units tables.stand j is form (classes_view c.args.classes.now) (c.tables_are_classes.ensures units c.args.classes.now tables) c.large_clauses_make_large_sequents.ensures c.invariants_are_resolved.ensures (rw c.in-Err-TooLarge.field-0-is at (c.in-Err-TooLarge.ensures.why units j is tables resolved same))
