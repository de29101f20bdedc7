use Rattle.std.proofs.Common.{map, sym, ap, ◌∙◌}
use Rattle.std.specs.Coded.{coded_option}
use Rattle.jd_syntax.specs.JavaTypes.{type_view}
use Rattle.jd_jinfos.specs.Infos.{method_infos}
use Rattle.jd_jinfos.specs.Views.{method_info_view}
use Rattle.jd_classes.specs.Tables.{listed_methods}
use Rattle.jd_tgrammar.specs.NameTables.{RoutineName}
use Rattle.jd_tgrammar.specs.Spelling.{no_routine}
use Rattle.jd_tforms.specs.Naming.{at_number}
use Rattle.jd_names.specs.Tables.{routine_name, sort_of}
use Rattle.jd_tparse.specs.Names.{table_of}
use Rattle.jd_tparse.proofs.Opening.{read_at, same_for_each}
use Rattle.jd_tparse.proofs.SortCodes.{coded_sort}
use Rattle.jd_tparse.proofs.sorts.NamesNameSorts.parameter_sort.Goals as goal

pub returns-then-method-method_count : goal.returns-then-method-method_count
returns-then-method-method_count c =
    same_for_each c.args.self.now.classes.now c.args.self.now.program _ _ (coded_option coded_sort) (λ units tables.
    c.sort_at.ensures
    ∙ ap (λ ts. at_number (map sort_of (map type_view ts)) c.args.number) c.deref.ensures.value
    ∙ sym (ap (λ (n : RoutineName). at_number n.parameters c.args.number) (read_at routine_name (listed_methods c.args.self.now.classes.now) (method_infos units) c.args.method.0 (method_info_view c.method.result.now) (no_routine (table_of c.args.self.now)) tables.methods_ (c.method.ensures units tables))))
