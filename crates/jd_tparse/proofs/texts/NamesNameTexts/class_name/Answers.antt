use Rattle.std.proofs.Common.{[], sym, ◌∙◌}
use Rattle.std.specs.Coded.{coded_list, coded_ℕ}
use Rattle.jd_jinfos.specs.Infos.{class_infos}
use Rattle.jd_jinfos.specs.Views.{class_info_view}
use Rattle.jd_classes.specs.Tables.{listed_classes}
use Rattle.jd_names.specs.Tables.{class_name}
use Rattle.jd_tparse.proofs.Opening.{read_at, same_for_each}
use Rattle.jd_tparse.proofs.texts.NamesNameTexts.class_name.Goals as goal

pub returns-then-class-class_count : goal.returns-then-class-class_count
returns-then-class-class_count c =
    same_for_each c.args.self.now.classes.now c.args.self.now.program _ _ (coded_list coded_ℕ) (λ units tables.
    c.deref.ensures.value ∙ sym (read_at class_name (listed_classes c.args.self.now.classes.now) (class_infos units) c.args.class.0 (class_info_view c.class.result.now) [] tables.classes_ (c.class.ensures units tables)))
