-- The first refused token of a program's JML.
use Rattle.std.specs.Prelude.{◌≡◌, ℕ, List, Option, Some, None}
use Rattle.jd_syntax.specs.JavaTrees.{JavaClass, JavaUnit}
use Rattle.jd_jinfos.specs.Infos.{PlainClassInfo}
use Rattle.jd_bodies.specs.Declarations.{AreDeclarations, Declarations}
use Rattle.jd_specifications.specs.Refused.{fault_or, first_fault, members}
use Rattle.jd_specifications.specs.declared.fault.SpecFault.{SpecFault}
use Rattle.jd_jml_refusals.specs.declared.refused.Refused.{Refused}

-- the file, and the token in it
abbrev pub refused_view : Refused → ℕ × SpecFault
refused_view r = (r.file, r.fault)

-- by what the program declares
abbrev pub IsFirst : List JavaUnit → Option (ℕ × SpecFault) → Type 0
IsFirst units r = (d : Declarations) × AreDeclarations units d × (r ≡ first_fault d units)

-- of one class, where it is declared
abbrev pub fault_in : Declarations → ℕ → ℕ → Option JavaClass → Option (ℕ × SpecFault)
fault_in d class file None = None
fault_in d class file (Some tree) = fault_or d file (members d class tree.members tree.end) None

abbrev pub class_fault : Declarations → ℕ → PlainClassInfo → Option (ℕ × SpecFault)
class_fault d class info = fault_in d class info.file info.decl
