use Rattle.std.proofs.Common.{◌≡◌, ◌+◌, ◌++◌, length, map}
use Rattle.jd_syntax.specs.JavaTrees.{unit_view}
use Rattle.jd_jclasses.specs.Classes.{classes_from, declared_classes}
use Rattle.jd_jinfos.specs.Stages.{declared_head, head_view}
use Rattle.jd_jinfos.proofs.classes.add_files.Given as goal

-- what is made so far, and what the rest adds
abbrev pub invariant-loop-unit : goal.invariant-loop-unit
invariant-loop-unit l = record {
  whole : map head_view l.out.items ++ map declared_head (classes_from l.file (map unit_view l.unit-iterator.rest.items))
      ≡ map head_view l.fn.out.items ++ map declared_head (declared_classes (map unit_view l.fn.units.items));
  counted : l.file + length l.unit-iterator.rest.items ≡ length l.fn.units.items;
}
