use Rattle.std.proofs.Common.{◌≡◌, ◌-◌, ◌++◌, List, drop}
use Rattle.jd_bodies.specs.Bodies.{PlainBody, bodies}
use Rattle.jd_classes.specs.Tables.{AreTables}
use Rattle.jd_jclasses.specs.Classes.{declared_classes}
use Rattle.jd_syntax.specs.JavaTrees.{JavaUnit}
use Rattle.jd_check.specs.Building.{GivesBodies}
use Rattle.jd_check.proofs.Gathering.{all_from}
use Rattle.jd_check.proofs.bodies.all_bodies.Given as goal

-- the classes that are left give the whole, behind what is made so far
abbrev pub invariant-loop-class : goal.invariant-loop-class
invariant-loop-class g l =
    (units : List JavaUnit) → AreTables units l.classes → (bs : List PlainBody) × GivesBodies l.bodies bs
    × (bs ++ all_from (g.D.Declares.declarations l.d) l.class (drop (l.class - 10) (declared_classes units)) ≡ bodies (g.D.Declares.declarations l.d) units)
