use Rattle.std.proofs.Common.{List, Vec, ap₂, map, ℕ, ℤ, ◌++◌, ◌∙◌}
use Rattle.jd_base.specs.declared.ids.FieldId.{FieldId}
use Rattle.jd_jinfos.specs.Infos.{field_infos}
use Rattle.jd_jinfos.specs.Views.{constant_view, field_number}
use Rattle.jd_declared.specs.Named.{first_named, value_at}
use Rattle.jd_declared.specs.Owned.{constant_pair, field_pairs}
use Rattle.jd_declared.proofs.Naming.{both_named}
use Rattle.jd_declared.proofs.building.own_variables.Goals as goal

pub returns : goal.returns
returns c = λ units tables q.
    both_named (field_pairs (field_infos units) (value_at c.args.numbers.now) (map field_number c.deref.result.now)) (map constant_pair (map constant_view c.deref-2.result.now)) _ _ _ q
    (c.new-own.ensures q) (c.in_ok-add_fields.ensures units tables q) (c.in_ok-add_constants.ensures q)
    ∙ ap₂ (λ (fs : List FieldId) (cs : List (Vec ℕ _ × ℤ)). first_named (field_pairs (field_infos units) (value_at c.args.numbers.now) (map field_number fs) ++ map constant_pair (map constant_view cs)) q)
    c.deref.ensures.value c.deref-2.ensures.value
