use Rattle.std.proofs.Common.{sym, ap, ◌∙◌}
use Rattle.jd_jinfos.specs.Infos.{field_infos}
use Rattle.jd_jinfos.specs.Views.{field_info_view}
use Rattle.jd_classes.specs.Tables.{listed_fields}
use Rattle.jd_tgrammar.specs.NameTables.{FieldName}
use Rattle.jd_tgrammar.specs.Spelling.{no_field}
use Rattle.jd_names.specs.Tables.{field_name}
use Rattle.jd_tparse.specs.Names.{table_of}
use Rattle.jd_tparse.proofs.Opening.{read_at, same_for_each}
use Rattle.jd_tparse.proofs.SortCodes.{coded_sort}
use Rattle.jd_tparse.proofs.sorts.NamesNameSorts.field_sort.Goals as goal

pub returns-then-field-field_count : goal.returns-then-field-field_count
returns-then-field-field_count c =
    same_for_each c.args.self.now.classes.now c.args.self.now.program _ _ coded_sort (λ units tables.
    c.sort_of.ensures
    ∙ sym (ap (λ (n : FieldName). n.sort) (read_at field_name (listed_fields c.args.self.now.classes.now) (field_infos units) c.args.field.0 (field_info_view c.field.result.now) (no_field (table_of c.args.self.now)) tables.fields_ (c.field.ensures units tables))))
