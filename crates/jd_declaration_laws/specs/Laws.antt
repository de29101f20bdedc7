-- That what the names in bodies stand for is one for each program.
use Rattle.std.specs.Prelude.{◌≡◌, List}
use Rattle.jd_syntax.specs.JavaTrees.{JavaUnit}
use Rattle.jd_jclasses.specs.Refusals.{AreClasses}
use Rattle.jd_bodies.specs.Declarations.{AreDeclarations, Declarations}

abbrev pub DeclarationsAreOne : Type 0
DeclarationsAreOne = (units : List JavaUnit) → AreClasses units → (d e : Declarations) → AreDeclarations units d → AreDeclarations units e → d ≡ e
