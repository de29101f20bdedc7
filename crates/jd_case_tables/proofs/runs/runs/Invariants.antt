use Rattle.std.proofs.Common.{◌≡◌, List, flat_map, map}
use Rattle.std.specs.List.{range_with_len}
use Rattle.jd_syntax.specs.JavaTrees.{JavaUnit}
use Rattle.jd_bodies.specs.Declarations.{AreDeclarations}
use Rattle.jd_classes.specs.Tables.{AreTables}
use Rattle.jd_case_tables.specs.Running.{class_runs, run_view}
use Rattle.jd_case_tables.proofs.runs.runs.Given as goal

-- those of the classes before this one
abbrev pub invariant-loop-class : goal.invariant-loop-class
invariant-loop-class g l = (units : List JavaUnit) → AreTables units l.classes → AreDeclarations units (g.D.Declares.declarations l.d)
    → map run_view l.made.items ≡ flat_map (class_runs units (g.D.Declares.declarations l.d)) (range_with_len 0 l.class)
