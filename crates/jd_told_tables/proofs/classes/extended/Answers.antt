use Rattle.std.proofs.Common.{arith, sym, ◌∙◌}
use Rattle.std.specs.Coded.{coded_option, coded_ℕ}
use Rattle.jd_jinfos.specs.Views.{class_info_view}
use Rattle.jd_told_tables.proofs.Tables.{no_parent, parent_is, same_for_each}
use Rattle.jd_told_tables.proofs.classes.extended.Goals as goal

pub returns-then-class-class_count : goal.returns-then-class-class_count
returns-then-class-class_count c =
    same_for_each c.args.task.now.classes.now c.args.task.now.program _ _ (coded_option coded_ℕ) (λ units tables.
    c.number_of.ensures ∙ sym (parent_is c.args.task.now.classes.now units tables c.args.class (class_info_view c.class.result.now) (c.class.ensures units tables)))

pub returns-else-class-class_count : goal.returns-else-class-class_count
returns-else-class-class_count c = sym (no_parent c.args.task.now.classes.now c.args.class (omega (arith, c.if-class-class_count.false, c.class_count.ensures)))
