-- What holds of the methods that a class sees, its own and those that it inherits.
use Rattle.std.specs.Prelude.{◌≡◌, ℕ, false, List, Some}
use Rattle.std.specs.List.{Contains, slice_get}
use Rattle.jd_syntax.specs.JavaTrees.{JavaUnit}
use Rattle.jd_jclasses.specs.Classes.{IsSubclass}
use Rattle.jd_jclasses.specs.Members.{Declared, is_constructor}
use Rattle.jd_jclasses.specs.Methods.{routines}
use Rattle.jd_jclasses.specs.Refusals.{AreClasses}
use Rattle.jd_bodies.specs.Declarations.{AreDeclarations, Declarations}
use Rattle.jd_programs.specs.Cases.{contracts_in}
use Rattle.jd_programs.specs.Members.{methods_seen}
use Rattle.jd_jml_cases.specs.Cases.{lineage}

-- in the class that sees it a method has the contracts that it has in the class that declares it
abbrev pub InheritedCasesAreThose : Type 0
InheritedCasesAreThose =
    (units : List JavaUnit) → AreClasses units → (d : Declarations) → AreDeclarations units d
    → (c m : ℕ) → Contains (methods_seen units (lineage units) d c) m → (r : Declared) → slice_get (routines units) m ≡ Some r
    → contracts_in units (lineage units) d c m ≡ contracts_in units (lineage units) d r.class m

-- what is seen is no constructor, and is declared by the class or by one above it
abbrev pub SeenMethodsAreMethods : Type 0
SeenMethodsAreMethods =
    (units : List JavaUnit) → AreClasses units → (d : Declarations) → AreDeclarations units d
    → (c m : ℕ) → Contains (methods_seen units (lineage units) d c) m → (r : Declared) → slice_get (routines units) m ≡ Some r
    → (is_constructor r.kind ≡ false) × IsSubclass units c r.class
