use Rattle.std.proofs.Common.{ap, arith, option_map, sym}
use Rattle.std.specs.Coded.{coded_option, coded_ℕ}
use Rattle.jd_jinfos.specs.Views.{field_info_view}
use Rattle.jd_told_tables.specs.Types.{class_of_field}
use Rattle.jd_told_tables.proofs.Tables.{field_is, no_class, same_for_each}
use Rattle.jd_told_tables.proofs.types.declaring.Goals as goal

pub returns-then-field-field_count : goal.returns-then-field-field_count
returns-then-field-field_count c =
    same_for_each c.args.task.now.classes.now c.args.task.now.program _ _ (coded_option coded_ℕ) (λ units tables.
    sym (ap (option_map class_of_field) (field_is c.args.task.now.classes.now units tables c.args.field.0 (field_info_view c.field.result.now) (c.field.ensures units tables))))

pub returns-else-field-field_count : goal.returns-else-field-field_count
returns-else-field-field_count c = sym (no_class c.args.task.now.classes.now c.args.field.0 (omega (arith, c.if-field-field_count.false, c.field_count.ensures)))
