-- What is refused by what a program declares is refused.
use Rattle.std.proofs.Common.{List}
use Rattle.jd_syntax.specs.JavaTrees.{JavaUnit}
use Rattle.jd_bodies.specs.Declarations.{AreDeclarations, Declarations}
use Rattle.jd_check.specs.Building.{IsRefusal, IsRefused}
use Rattle.jd_check.specs.declared.bodies.CheckRefusal.{CheckRefusal}
use Rattle.jd_check.specs.declared.bodies.CheckRefusal.TheVariants as refusals

pub refused_by : (d : Declarations) (units : List JavaUnit) (e : CheckRefusal) → AreDeclarations units d → IsRefusal d units e → IsRefused units e
refused_by d units (refusals.Refused r) are is = (d, are, is)
refused_by d units refusals.NoMemory are is = tt
