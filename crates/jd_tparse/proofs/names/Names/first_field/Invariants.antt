use Rattle.std.proofs.Common.{◌≡◌, List, map, drop}
use Rattle.std.specs.List.{find}
use Rattle.jd_syntax.specs.JavaTrees.{JavaUnit}
use Rattle.jd_jinfos.specs.Views.{field_number}
use Rattle.jd_classes.specs.Tables.{AreTables}
use Rattle.jd_tparse.specs.Called.{field_called}
use Rattle.jd_tparse.proofs.names.Names.first_field.Given as goal

-- none so far has the name
abbrev pub invariant-loop-field : goal.invariant-loop-field
invariant-loop-field l = (units : List JavaUnit) → AreTables units l.self.classes.now → find (field_called units l.name) (map field_number (drop l.field-index l.own)) ≡ find (field_called units l.name) (map field_number l.own)
