use Rattle.std.proofs.Common.{◌≡◌, ◌++◌, map, drop}
use Rattle.jd_syntax.specs.JavaTrees.{unit_view}
use Rattle.jd_jclasses.specs.Classes.{classes_from, declared_classes}
use Rattle.jd_jheads.specs.Placed.{placed_view}
use Rattle.jd_jheads.proofs.placed.classes_of.Given as goal

abbrev pub invariant-loop-unit : goal.invariant-loop-unit
invariant-loop-unit l = (map placed_view l.out.items ++ classes_from l.file (map unit_view (drop l.unit-index l.units)) ≡ declared_classes (map unit_view l.units)) × (l.file ≡ l.unit-index)
