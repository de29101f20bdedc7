use Rattle.std.proofs.Common.{◌≡◌, ℕ, List, drop, map}
use Rattle.jd_syntax.specs.JavaTrees.{JavaUnit}
use Rattle.jd_jinfos.specs.Infos.{field_infos}
use Rattle.jd_jinfos.specs.Views.{field_number}
use Rattle.jd_classes.specs.Tables.{AreTables}
use Rattle.jd_declared.specs.Named.{then_named, value_at}
use Rattle.jd_declared.specs.Owned.{field_pairs}
use Rattle.jd_declared.proofs.building.add_fields.Given as goal

-- those that are left come behind what is there by now
abbrev pub invariant-loop-field : goal.invariant-loop-field
invariant-loop-field l = (units : List JavaUnit) → AreTables units l.classes → (q : List ℕ)
    → then_named (value_at l.fn.own q) (field_pairs (field_infos units) (value_at l.numbers) (map field_number l.fields)) q
    ≡ then_named (value_at l.own q) (field_pairs (field_infos units) (value_at l.numbers) (map field_number (drop l.field-index l.fields))) q
