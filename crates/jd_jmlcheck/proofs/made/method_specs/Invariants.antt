use Rattle.std.proofs.Common.{◌≡◌, List, map}
use Rattle.std.specs.List.{range_with_len}
use Rattle.jd_syntax.specs.JavaTrees.{JavaUnit}
use Rattle.jd_classes.specs.Tables.{AreTables}
use Rattle.jd_jml_cases.specs.Trees.{AreTrees}
use Rattle.jd_jmlcheck.specs.Specified.{method_spec}
use Rattle.jd_jmlcheck.specs.Views.{method_spec_view}
use Rattle.jd_jmlcheck.proofs.made.method_specs.Given as goal

-- those before this one
abbrev pub invariant-loop-m : goal.invariant-loop-m
invariant-loop-m l = (units : List JavaUnit) → AreTables units l.p.classes.now → AreTrees units l.p.trees.now → map method_spec_view l.made.items ≡ map (method_spec units) (range_with_len 0 l.m)
