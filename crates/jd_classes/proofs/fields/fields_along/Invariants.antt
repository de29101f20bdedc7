use Rattle.std.proofs.Common.{◌≡◌, ◌++◌, map, take}
use Rattle.jd_jinfos.specs.Views.{field_number}
use Rattle.jd_classes.specs.Fields.{along, own_fields}
use Rattle.jd_classes.proofs.fields.fields_along.Given as goal

-- what is found so far, and what the classes before these add, is the whole
abbrev pub invariant-loop-place : goal.invariant-loop-place
invariant-loop-place l = map field_number l.fields.items ++ along (own_fields l.infos) (take l.place l.classes) ≡ along (own_fields l.infos) l.classes
