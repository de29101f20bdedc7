-- Where the classes and the routines of a program stand.
use Rattle.std.specs.Prelude.{◌≡◌, ◌<◌, ℕ, true, List, length, Some}
use Rattle.std.specs.List.{slice_get}
use Rattle.jd_ancestry.specs.Ancestors.{AreNodes}
use Rattle.jd_syntax.specs.JavaTrees.{JavaUnit}
use Rattle.jd_jclasses.specs.Classes.{parents}
use Rattle.jd_jclasses.specs.Members.{Declared, declared_members, is_routine}
use Rattle.jd_jclasses.specs.Methods.{routines}
use Rattle.jd_jseen.specs.Own.{routines_before}

-- what a class extends is a class
abbrev pub ParentsAreClasses : Type 0
ParentsAreClasses = (units : List JavaUnit) → AreNodes (parents units)

-- what is declared is of a class
abbrev pub MembersAreOfClasses : Type 0
MembersAreOfClasses = (units : List JavaUnit) (i : ℕ) (a : Declared) → slice_get (declared_members units) i ≡ Some a → a.class < length (parents units)

-- a routine is a member, and its number that of the routines before it
abbrev pub RoutinesAreMembers : Type 0
RoutinesAreMembers = (units : List JavaUnit) (m : ℕ) (r : Declared) → slice_get (routines units) m ≡ Some r → (i : ℕ) × (slice_get (declared_members units) i ≡ Some r) × (is_routine r.kind ≡ true) × (m ≡ routines_before (declared_members units) i)

-- and a member that is one has this number
abbrev pub MembersAreRoutines : Type 0
MembersAreRoutines = (units : List JavaUnit) (i : ℕ) (r : Declared) → slice_get (declared_members units) i ≡ Some r → is_routine r.kind ≡ true → slice_get (routines units) (routines_before (declared_members units) i) ≡ Some r
