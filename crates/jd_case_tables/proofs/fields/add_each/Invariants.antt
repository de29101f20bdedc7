use Rattle.std.proofs.Common.{◌≡◌, ◌++◌, List, drop, map}
use Rattle.jd_syntax.specs.JavaTrees.{JavaUnit}
use Rattle.jd_classes.specs.Tables.{AreTables}
use Rattle.jd_jinfos.specs.Views.{field_number}
use Rattle.jd_row_makers.specs.Heads.{field_view}
use Rattle.jd_case_tables.specs.Fielded.{sorted}
use Rattle.jd_case_tables.proofs.fields.add_each.Given as goal

-- those so far, and those that are left
abbrev pub invariant-loop-f : goal.invariant-loop-f
invariant-loop-f g l = (units : List JavaUnit) → AreTables units l.classes
    → map field_view l.to.items ++ map (sorted units (g.D.Declares.declarations l.d)) (map field_number (drop l.f-index l.fs))
    ≡ map field_view l.fn.to.items ++ map (sorted units (g.D.Declares.declarations l.d)) (map field_number l.fs)
