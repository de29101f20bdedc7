use Rattle.std.proofs.Common.{◌≡◌, ◌++◌, List, map, drop}
use Rattle.jd_syntax.specs.JavaTrees.{JavaUnit}
use Rattle.jd_jclasses.specs.Methods.{routines}
use Rattle.jd_classes.specs.Tables.{AreTables}
use Rattle.jd_bodies.specs.Bodies.{bodies}
use Rattle.jd_bodies.specs.Declarations.{Declarations}
use Rattle.jd_check.specs.Building as resolved
use Rattle.jd_model.specs.ContractForms.{body_view}
use Rattle.jd_listed_tables.specs.Listed.{body_rows_from}
use Rattle.jd_body_tables.proofs.bodies.body_rows.Given as goal

-- those so far, and those of the methods that are left
abbrev pub invariant-loop-number : goal.invariant-loop-number
invariant-loop-number l =
    (units : List JavaUnit) (d : Declarations) → AreTables units l.classes → map resolved.body_view l.bodies ≡ bodies d units
    → map body_view l.rows.items ++ body_rows_from d l.number (drop l.number (routines units)) ≡ body_rows_from d 0 (routines units)
