use Rattle.std.proofs.Common.{Some, option_map, sym, ap, ◌∙◌}
use Rattle.std.specs.Coded.{coded_option}
use Rattle.jd_syntax.specs.JavaTypes.{type_view}
use Rattle.jd_jinfos.specs.Infos.{method_infos}
use Rattle.jd_jinfos.specs.Views.{method_info_view}
use Rattle.jd_classes.specs.Tables.{listed_methods}
use Rattle.jd_tgrammar.specs.NameTables.{RoutineName}
use Rattle.jd_tgrammar.specs.Spelling.{no_routine}
use Rattle.jd_names.specs.Tables.{routine_name, sort_of}
use Rattle.jd_tparse.specs.Names.{table_of}
use Rattle.jd_tparse.proofs.Opening.{read_at, same_for_each}
use Rattle.jd_tparse.proofs.SortCodes.{coded_sort}
use Rattle.jd_tparse.proofs.sorts.NamesNameSorts.result_sort.Goals as goal

pub returns-in-Some : goal.returns-in-Some
returns-in-Some c =
    same_for_each c.args.self.now.classes.now c.args.self.now.program _ _ (coded_option coded_sort) (λ units tables.
    ap Some c.sort_of.ensures
    ∙ sym (ap (λ r. option_map sort_of (option_map type_view r)) c.in-Some.is)
    ∙ sym (ap (λ (n : RoutineName). n.result) (read_at routine_name (listed_methods c.args.self.now.classes.now) (method_infos units) c.args.method.0 (method_info_view c.method.result.now) (no_routine (table_of c.args.self.now)) tables.methods_ (c.method.ensures units tables))))

pub returns-in-None : goal.returns-in-None
returns-in-None c =
    same_for_each c.args.self.now.classes.now c.args.self.now.program _ _ (coded_option coded_sort) (λ units tables.
    sym (ap (λ r. option_map sort_of (option_map type_view r)) c.in-None.is)
    ∙ sym (ap (λ (n : RoutineName). n.result) (read_at routine_name (listed_methods c.args.self.now.classes.now) (method_infos units) c.args.method.0 (method_info_view c.method.result.now) (no_routine (table_of c.args.self.now)) tables.methods_ (c.method.ensures units tables))))
