use Rattle.std.proofs.Common.{sym, ◌∙◌}
use Rattle.std.specs.Coded.{coded_option, coded_ℕ}
use Rattle.jd_told_tables.proofs.Tables.{name_is, same_for_each}
use Rattle.jd_told_tables.proofs.classes.class_named.Goals as goal

pub returns : goal.returns
returns c =
    same_for_each c.args.task.now.classes.now c.args.task.now.program _ _ (coded_option coded_ℕ) (λ units tables.
    c.class_named.ensures.named units tables ∙ sym (name_is c.args.task.now.classes.now units tables c.args.name.now))
