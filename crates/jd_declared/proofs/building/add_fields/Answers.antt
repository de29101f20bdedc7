use Rattle.std.proofs.Common.{option_map}
use Rattle.std.specs.List.{slice_get}
use Rattle.jd_jinfos.specs.Infos.{field_infos}
use Rattle.jd_jinfos.specs.Views.{field_number}
use Rattle.jd_declared.specs.Named.{value_at}
use Rattle.jd_declared.specs.Owned.{field_pair}
use Rattle.jd_declared.proofs.Naming.{next_listed}
use Rattle.jd_declared.proofs.building.add_fields.Goals as goal

pub loop-field-preserved : goal.loop-field-preserved
loop-field-preserved c = λ units tables q.
    next_listed (λ f. option_map (field_pair (value_at c.args.numbers.now) f) (slice_get (field_infos units) f)) field_number c.args.fields.now c.loop-field.field-index _ _ _ _ q
    c.loop-field-test.true (c.loop-field.invariant units tables q) (c.in_ok-add_field.ensures units tables q)
