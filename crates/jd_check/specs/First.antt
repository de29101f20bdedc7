-- The first refused token of a program's bodies.
use Rattle.std.specs.Prelude.{◌≡◌, ℕ, List, Option, Some, None}
use Rattle.jd_syntax.specs.JavaTrees.{JavaClass, JavaUnit}
use Rattle.jd_jinfos.specs.Infos.{PlainClassInfo}
use Rattle.jd_bodies.specs.Declarations.{AreDeclarations, Declarations}
use Rattle.jd_bodies.specs.Refused.{fault_or, first_fault, members}
use Rattle.jd_bodies.specs.declared.fault.Fault.{Fault}
use Rattle.jd_check.specs.declared.refused.Refused.{Refused}

-- the file, and the token in it
abbrev pub refused_view : Refused → ℕ × Fault
refused_view r = (r.file, r.fault)

-- by what the program declares
abbrev pub IsFirst : List JavaUnit → Option (ℕ × Fault) → Type 0
IsFirst units r = (d : Declarations) × AreDeclarations units d × (r ≡ first_fault d units)

-- of one class, where it is declared
abbrev pub fault_in : Declarations → ℕ → ℕ → Option JavaClass → Option (ℕ × Fault)
fault_in d class file None = None
fault_in d class file (Some tree) = fault_or d file (members d class tree.members) None

abbrev pub class_fault : Declarations → ℕ → PlainClassInfo → Option (ℕ × Fault)
class_fault d class info = fault_in d class info.file info.decl
