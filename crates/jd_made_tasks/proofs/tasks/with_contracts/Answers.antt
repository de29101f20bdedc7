use Rattle.jd_made_tasks.proofs.tasks.with_contracts.Goals as goal

pub returns-in-Ok-Some : goal.returns-in-Ok-Some
returns-in-Ok-Some c = λ units j is tables form tabled. c.within.ensures c.args.classes.now units (rw c.in-Ok-Some.field-0-is at (c.in-Ok-Some.ensures units j is tables form tabled))

pub returns-in-Ok-None : goal.returns-in-Ok-None
returns-in-Ok-None c = λ units j is tables form tabled. rw c.in-Ok-None.field-0-is at (c.in-Ok-None.ensures units j is tables form tabled)
