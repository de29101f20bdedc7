use Rattle.std.proofs.Common.{ap, arith, sym, ◌∙◌}
use Rattle.jd_jinfos.specs.Views.{field_info_view}
use Rattle.jd_task_classes.specs.Classes.{tables_view}
use Rattle.jd_task_classes.specs.Standing.{field_type_in}
use Rattle.jd_told_tables.proofs.Tables.{coded_type, field_is, no_type, same_for_each}
use Rattle.jd_told_tables.proofs.types.field_type.Goals as goal

pub returns-then-field-field_count : goal.returns-then-field-field_count
returns-then-field-field_count c =
    same_for_each c.args.task.now.classes.now c.args.task.now.program _ _ coded_type (λ units tables.
    c.type_written.ensures ∙ sym (ap (field_type_in (tables_view c.args.task.now.classes.now)) (field_is c.args.task.now.classes.now units tables c.args.field.0 (field_info_view c.field.result.now) (c.field.ensures units tables))))

pub returns-else-field-field_count : goal.returns-else-field-field_count
returns-else-field-field_count c = sym (no_type (tables_view c.args.task.now.classes.now) c.args.task.now.classes.now c.args.field.0 (omega (arith, c.if-field-field_count.false, c.field_count.ensures)))
