-- What the routines and the families of a program call: syntactic, by the names that are written.
use Rattle.std.specs.Prelude.{◌≡◌, ℕ, Bool, true, List, [], Some}
use Rattle.std.specs.Bool.{Decides}
use Rattle.std.specs.List.{Contains, slice_get}
use Rattle.jd_reach.specs.Paths.{ReachesBy}
use Rattle.jd_syntax.specs.JavaTrees.{JavaUnit}
use Rattle.jd_jcalls.specs.Called.{PlainCalled, MethodNamed, ConstructorOf, ConstructorAbove}
use Rattle.jd_jcalls.specs.Calls.{calls_in_stmts}
use Rattle.jd_jclasses.specs.Classes.{class_named, parents, IsSubclass}
use Rattle.jd_jclasses.specs.Members.{Declared, Kind, FieldOf, ConstantOf, RoutineOf, is_constructor, is_method}
use Rattle.jd_jclasses.specs.Methods.{routines, RoutineAt}

-- ---- which constructor runs for a class (JLS 12.5, 15.9)

-- the class declares the constructor
abbrev pub DeclaresConstructor : List JavaUnit → ℕ → ℕ → Type 0
DeclaresConstructor units class m = RoutineAt units m (λ r. (is_constructor r.kind ≡ true) × (r.class ≡ class))

-- that of the nearest among the class and its ancestors that declare one; none runs where none does
pub record IsConstructorFor (units : List JavaUnit) (class m : ℕ) : Type 0 where
  pub owner : ℕ
  pub declared : DeclaresConstructor units owner m
  pub inherited : IsSubclass units class owner
  pub nearest : (other n : ℕ) → IsSubclass units class other → DeclaresConstructor units other n → IsSubclass units owner other

-- that for the class that a class extends
pub record IsConstructorAbove (units : List JavaUnit) (class m : ℕ) : Type 0 where
  pub parent : ℕ
  pub extended : slice_get (parents units) class ≡ Some (Some parent)
  pub runs : IsConstructorFor units parent m

-- ---- which routines a call counts for

abbrev pub calls_in : Kind → List PlainCalled
calls_in (FieldOf t) = []
calls_in (ConstantOf n) = []
calls_in (RoutineOf m) = calls_in_stmts m.body

-- a call in a routine counts for each method of the name, and for the constructor that runs
pub data CountsFor (units : List JavaUnit) (caller : Declared) (n : ℕ) : PlainCalled → Type 0 where
  by_name : (name : List ℕ) → RoutineAt units n (λ r. (is_method r.kind ≡ true) × (r.name.name ≡ name)) → CountsFor units caller n (MethodNamed name)
  by_new : (name : List ℕ) (class : ℕ) → class_named units name ≡ Some class → IsConstructorFor units class n → CountsFor units caller n (ConstructorOf name)
  by_super : IsConstructorAbove units caller.class n → CountsFor units caller n ConstructorAbove

-- a constructor calls one above it also where it does not say so (JLS 8.8.7)
pub data Calls (units : List JavaUnit) (m n : ℕ) : Type 0 where
  written : (caller : Declared) (c : PlainCalled) → slice_get (routines units) m ≡ Some caller → Contains (calls_in caller.kind) c → CountsFor units caller n c → Calls units m n
  unwritten : (caller : Declared) → slice_get (routines units) m ≡ Some caller → is_constructor caller.kind ≡ true → (Contains (calls_in caller.kind) ConstructorAbove → ⊥) → IsConstructorAbove units caller.class n → Calls units m n

-- ---- families

-- a member of one family calls a member of the other
pub record FamilyCalls (units : List JavaUnit) (family : ℕ → ℕ) (a b : ℕ) : Type 0 where
  pub m : ℕ
  pub n : ℕ
  pub of_one : family m ≡ a
  pub of_other : family n ≡ b
  pub calls : Calls units m n

-- the edges of the call graph of families
abbrev pub AreFamilyCalls : List JavaUnit → (ℕ → ℕ) → (ℕ → ℕ → Bool) → Type 0
AreFamilyCalls units family calls = (a b : ℕ) → Decides (calls a b) (FamilyCalls units family a b)

-- two families that reach each other
abbrev pub InOneCluster : (ℕ → ℕ → Bool) → ℕ → ℕ → Type 0
InOneCluster calls a b = ReachesBy calls a b × ReachesBy calls b a
