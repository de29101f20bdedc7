use Rattle.std.proofs.Common.{◌++◌, ℕ, List, Some, ap, map, ◌∙◌}
use Rattle.jd_jclasses.specs.Classes.{parents}
use Rattle.jd_jml_cases.specs.Cases.{classes_up}
use Rattle.jd_jml_cases.proofs.Listing.{class_count}
use Rattle.jd_row_makers.specs.Heads.{field_view}
use Rattle.jd_row_makers.specs.declared.heads.FieldSort.{FieldSort}
use Rattle.jd_case_tables.specs.Fielded.{all_sorted}
use Rattle.jd_case_tables.proofs.fields.fields_of.Goals as goal

pub returns : goal.returns
returns g c = λ units tables.
    let d = g.D.Declares.declarations c.args.d.now in
    c.in_ok-add_along.ensures units tables
    ∙ ap (λ (l : List FieldSort). map field_view l ++ all_sorted units d (classes_up (parents units) c.class_count.result (Some c.args.class.0))) c.new-made.ensures.items
    ∙ ap (λ (k : ℕ). all_sorted units d (classes_up (parents units) k (Some c.args.class.0))) (c.class_count.ensures ∙ class_count units c.args.classes.now tables)
