-- The tables of a program's classes and members.
use Rattle.std.specs.Prelude.{◌≡◌, ℕ, List, Option}
use Rattle.jd_syntax.specs.JavaTrees.{JavaUnit}
use Rattle.jd_jclasses.specs.Classes.{parents}
use Rattle.jd_jclasses.specs.Members.{Declared, declared_members}
use Rattle.jd_jclasses.specs.Numbers.{AreNumbers}
use Rattle.jd_jclasses.specs.Refusals.{AreClasses, SameName}

-- what the classes of these files extend, what they declare, and the numbers of the names of what they declare
pub record AreTables (units : List JavaUnit) (extended : List (Option ℕ)) (members : List Declared) (names : List ℕ) (count : ℕ) : Type 0 where
  pub stand : AreClasses units
  pub parents_are : extended ≡ parents units
  pub members_are : members ≡ declared_members units
  pub numbers_are : AreNumbers SameName members names count

-- these are the tables of some files
abbrev pub AreSomeTables : List (Option ℕ) → List Declared → List ℕ → ℕ → Type 0
AreSomeTables extended members names count = (units : List JavaUnit) × AreTables units extended members names count
