-- The fields and routines of a program by their numbers, which method of a name is seen in a class, and families of methods.
use Rattle.std.specs.Prelude.{◌≡◌, ◌↔◌, ◌<◌, ℕ, true, false, List, filter, Some}
use Rattle.std.specs.List.{slice_get}
use Rattle.jd_syntax.specs.JavaTrees.{JavaUnit}
use Rattle.jd_jclasses.specs.Classes.{IsAncestor, IsSubclass}
use Rattle.jd_jclasses.specs.Members.{Declared, declared_members, is_field, is_routine, is_method, is_static}

-- ---- numbers: in the order of the files

abbrev pub fields : List JavaUnit → List Declared
fields units = filter (λ m. is_field m.kind) (declared_members units)

-- methods and constructors
abbrev pub routines : List JavaUnit → List Declared
routines units = filter (λ m. is_routine m.kind) (declared_members units)

-- the routine of this number
pub record RoutineAt (units : List JavaUnit) (m : ℕ) (P : Declared → Type 0) : Type 0 where
  pub routine : Declared
  pub there : slice_get (routines units) m ≡ Some routine
  pub holds : P routine

-- ---- the fields of an object of a class (JLS 8.2): its own and those of its ancestors

abbrev pub HasField : List JavaUnit → ℕ → Declared → Type 0
HasField units class f = IsSubclass units class f.class

-- ---- which method of a name is seen in a class (JLS 8.2, 8.4.8)

-- the class declares the method of the name
abbrev pub Declares : List JavaUnit → ℕ → List ℕ → ℕ → Type 0
Declares units class name m = RoutineAt units m (λ r. (is_method r.kind ≡ true) × (r.class ≡ class) × (r.name.name ≡ name))

-- it is that of the nearest among the class and its ancestors that declare one
pub record IsSeen (units : List JavaUnit) (class : ℕ) (name : List ℕ) (m : ℕ) : Type 0 where
  pub owner : ℕ
  pub declared : Declares units owner name m
  pub inherited : IsSubclass units class owner
  pub nearest : (other n : ℕ) → IsSubclass units class other → Declares units other name n → IsSubclass units owner other

-- no class among it and its ancestors declares one
abbrev pub SeesNone : List JavaUnit → ℕ → List ℕ → Type 0
SeesNone units class name = (owner m : ℕ) → IsSubclass units class owner → Declares units owner name m → ⊥

-- ---- families: methods that override one another (JLS 8.4.8.1)

-- a method of an ancestor that a method overrides
pub record Overrides (units : List JavaUnit) (m n : ℕ) : Type 0 where
  pub one : Declared
  pub other : Declared
  pub there : slice_get (routines units) m ≡ Some one
  pub other_there : slice_get (routines units) n ≡ Some other
  pub methods : (is_method one.kind ≡ true) × (is_method other.kind ≡ true)
  pub instance : (is_static one.kind ≡ false) × (is_static other.kind ≡ false)
  pub name : one.name.name ≡ other.name.name
  pub below : IsAncestor units other.class one.class

-- tied by overriding, one way or the other, over as many methods as may be
pub data SameFamily (units : List JavaUnit) : ℕ → ℕ → Type 0 where
  its_own : (m : ℕ) → SameFamily units m m
  over : (m n o : ℕ) → Overrides units m n → SameFamily units n o → SameFamily units m o
  under : (m n o : ℕ) → Overrides units n m → SameFamily units n o → SameFamily units m o

-- of its family no routine is declared before it
abbrev pub IsFirst : List JavaUnit → ℕ → Type 0
IsFirst units m = (n : ℕ) → n < m → SameFamily units n m → ⊥

-- families are numbered from 0 in the order of their first routines
pub record AreFamilies (units : List JavaUnit) (count : ℕ) (family : ℕ → ℕ) : Type 0 where
  pub same : (m n : ℕ) (a b : Declared) → slice_get (routines units) m ≡ Some a → slice_get (routines units) n ≡ Some b → (family m ≡ family n) ↔ SameFamily units m n
  pub ordered : (m n : ℕ) (a b : Declared) → slice_get (routines units) m ≡ Some a → slice_get (routines units) n ≡ Some b → IsFirst units m → IsFirst units n → m < n → family m < family n
  pub below : (m : ℕ) (a : Declared) → slice_get (routines units) m ≡ Some a → family m < count
  pub each : (f : ℕ) → f < count → (m : ℕ) × RoutineAt units m (λ r. family m ≡ f)
