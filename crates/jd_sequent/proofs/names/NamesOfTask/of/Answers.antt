use Rattle.std.proofs.Common.{ap, ◌∙◌}
use Rattle.jd_names.specs.Tables.{name_table}
use Rattle.jd_sequent.proofs.TaskNames.{names_listed}
use Rattle.jd_tparse.specs.Names.{variables}
use Rattle.jd_tparse.specs.Programs.{tables_of}
use Rattle.jd_sequent.proofs.names.NamesOfTask.of.Goals as goal

pub returns : goal.returns
returns c =
    c.new.ensures.listed ∙ ap (λ l. name_table (tables_of c.args.task.now.classes.now) (variables l)) c.deref.ensures.value
    ∙ names_listed c.args.task.now.classes.now c.args.task.now.obligation.now.vars.items
