use Rattle.std.proofs.Common.{◌≡◌, ◌-◌, List, drop}
use Rattle.jd_syntax.specs.JavaTrees.{JavaUnit}
use Rattle.jd_jclasses.specs.Classes.{declared_classes}
use Rattle.jd_specifications.specs.Refused.{fault_from, first_fault}
use Rattle.jd_classes.specs.Tables.{AreTables}
use Rattle.jd_jml_refusals.proofs.refused.judge_classes.Given as goal

-- the classes that are left decide
abbrev pub invariant-loop-class : goal.invariant-loop-class
invariant-loop-class g l = (units : List JavaUnit) → AreTables units l.classes → first_fault (g.D.Declares.declarations l.d) units ≡ fault_from (g.D.Declares.declarations l.d) l.class (drop (l.class - 10) (declared_classes units))
