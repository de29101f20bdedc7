use Rattle.std.proofs.Common.{◌≡◌, ◌<◌, ◌++◌, List, OnOk, ap, map, subst, ◌∙◌}
use Rattle.jd_base.specs.declared.ids.FieldId.{FieldId}
use Rattle.jd_jinfos.specs.Views.{class_info_view, field_number}
use Rattle.jd_jml_cases.proofs.Listing.{class_count}
use Rattle.jd_row_makers.specs.Heads.{field_view}
use Rattle.jd_case_tables.specs.Fielded.{sorted}
use Rattle.jd_case_tables.proofs.Up.{fields_at}
use Rattle.jd_case_tables.proofs.fields.add_own.Goals as goal

pub returns : goal.returns
returns g c = λ units tables.
    let d = g.D.Declares.declarations c.args.d.now in
    let inside = subst (λ n. c.args.class < n) (class_count units c.args.classes.now tables) c.requires in
    subst (λ l. OnOk c.add_each.result (map field_view c.add_each.new.to.items ≡ map field_view c.args.to.now.items ++ l))
    (ap (λ (fs : List FieldId). map (sorted units d) (map field_number fs)) c.deref.ensures.value
    ∙ ap (map (sorted units d)) (fields_at units c.args.class (class_info_view c.class.result.now) (c.class.ensures units tables) inside))
    (c.add_each.ensures units tables)
