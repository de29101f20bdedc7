use Rattle.std.proofs.Common.{◌≡◌, ◌++◌, map, drop}
use Rattle.jd_syntax.specs.JavaTrees.{class_view}
use Rattle.jd_jheads.specs.Placed.{in_file, placed_view}
use Rattle.jd_jheads.proofs.placed.add_file.Given as goal

abbrev pub invariant-loop-class : goal.invariant-loop-class
invariant-loop-class l = map placed_view l.out.items ++ map (in_file l.file) (map class_view (drop l.class-index l.classes)) ≡ map placed_view l.fn.out.items ++ map (in_file l.file) (map class_view l.classes)
