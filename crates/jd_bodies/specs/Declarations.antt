-- What the names in bodies stand for in a program.
use Rattle.std.specs.Prelude.{◌≡◌, ◌⊎◌, ℕ, ℤ, Bool, false, List, [], map, Option, Some, None, option_map, MatchOption}
use Rattle.std.specs.Bool.{Decides}
use Rattle.std.specs.List.{slice_get}
use Rattle.std.specs.Option.{option_map_or}
use Rattle.jd_ancestry.specs.Walks.{parent_of}
use Rattle.jd_syntax.specs.JavaTypes.{PlainType, IntType, BooleanType, IntArrayType, NamedType}
use Rattle.jd_syntax.specs.JavaTrees.{JavaUnit}
use Rattle.jd_jclasses.specs.CallGraph.{DeclaresConstructor, IsConstructorFor}
use Rattle.jd_jclasses.specs.Classes.{class_named, parents, IsSubclass}
use Rattle.jd_jclasses.specs.Members.{Declared, FieldOf, ConstantOf, declared_members, is_static, parameter_types, result_of}
use Rattle.jd_jclasses.specs.Methods.{fields, routines, IsSeen, SeesNone}
use Rattle.jd_bodies.specs.declared.value.ValueType.{ValueType}
use Rattle.jd_bodies.specs.declared.value.ValueType.TheVariants.{Int, Boolean, IntArray, Class, Missing}
use Rattle.jd_bodies.specs.declared.value.Variable.{Variable}
use Rattle.jd_bodies.specs.declared.value.Variable.TheVariants as variables

-- ---- what is asked of a program

-- a method or constructor: the class that declares it, whether it is static, what it takes and what it gives
pub record Signature : Type 0 where
  pub class : ℕ
  pub static : Bool
  pub parameters : List ValueType
  pub result : Option ValueType

-- classes, fields and routines are numbers, as in the program's tables
pub record Declarations : Type 0 where
  -- the class of a name
  pub class_named : List ℕ → Option ℕ
  -- what a class extends
  pub parent : ℕ → Option ℕ
  -- whether the one class is the other or extends it, over as many classes as may be
  pub is_subclass : ℕ → ℕ → Bool
  -- the nearest class that is both or that both extend
  pub joined : ℕ → ℕ → ℕ
  -- the field or constant that a class sees by a name
  pub variable : ℕ → List ℕ → Option Variable
  -- the method that a class sees by a name
  pub method : ℕ → List ℕ → Option ℕ
  -- the constructor that runs for a class
  pub constructor : ℕ → Option ℕ
  pub signature : ℕ → Signature

-- ---- what a program answers

-- the type that a written one stands for
abbrev pub class_type : Option ℕ → ValueType
class_type None = Missing
class_type (Some c) = Class c

abbrev pub type_by : (List ℕ → Option ℕ) → PlainType → ValueType
type_by named IntType = Int
type_by named BooleanType = Boolean
type_by named IntArrayType = IntArray
type_by named (NamedType x) = class_type (named x)

abbrev pub type_of : List JavaUnit → PlainType → ValueType
type_of units t = type_by (class_named units) t

-- a class of both that each other such class is or is extended by
pub record IsNearestCommon (units : List JavaUnit) (a b c : ℕ) : Type 0 where
  pub of_one : IsSubclass units a c
  pub of_other : IsSubclass units b c
  pub nearest : (other : ℕ) → IsSubclass units a other → IsSubclass units b other → IsSubclass units c other

-- what the class or an ancestor declares by the name (JLS 8.2, 8.3)
pub data IsVariableOf (units : List JavaUnit) (class : ℕ) (name : List ℕ) : Variable → Type 0 where
  a_field : (f : ℕ) (one : Declared) (t : PlainType) → slice_get (fields units) f ≡ Some one → one.kind ≡ FieldOf t → one.name.name ≡ name → IsSubclass units class one.class → IsVariableOf units class name (variables.Field f (type_of units t))
  a_constant : (i : ℕ) (one : Declared) (n : ℤ) → slice_get (declared_members units) i ≡ Some one → one.kind ≡ ConstantOf n → one.name.name ≡ name → IsSubclass units class one.class → IsVariableOf units class name (variables.Constant n)

abbrev pub HasNoVariable : List JavaUnit → ℕ → List ℕ → Type 0
HasNoVariable units class name = (v : Variable) → IsVariableOf units class name v → ⊥

-- no constructor runs for the class
abbrev pub RunsNoConstructor : List JavaUnit → ℕ → Type 0
RunsNoConstructor units class = (owner m : ℕ) → IsSubclass units class owner → DeclaresConstructor units owner m → ⊥

abbrev pub signature_of : List JavaUnit → Declared → Signature
signature_of units r = record {
  class = r.class;
  static = is_static r.kind;
  parameters = map (type_of units) (parameter_types r.kind);
  result = option_map (type_of units) (result_of r.kind);
}

-- what a number that no routine has is told
abbrev pub no_signature : Signature
no_signature = record { class = 0; static = false; parameters = []; result = None }

abbrev pub signature_at : List JavaUnit → ℕ → Signature
signature_at units m = option_map_or (signature_of units) (slice_get (routines units) m) no_signature

abbrev pub HasNoCommon : List JavaUnit → ℕ → ℕ → Type 0
HasNoCommon units a b = (other : ℕ) → IsSubclass units a other → IsSubclass units b other → ⊥

-- the nearest class of both, or Object's number where a number is no class's
abbrev pub IsJoined : List JavaUnit → ℕ → ℕ → ℕ → Type 0
IsJoined units a b c = IsNearestCommon units a b c ⊎ (HasNoCommon units a b × (c ≡ 0))

-- these are the answers of the program whose files have these trees: what is no class's number extends nothing and has nothing
pub record AreDeclarations (units : List JavaUnit) (d : Declarations) : Type 0 where
  pub classes_ : (name : List ℕ) → d.class_named name ≡ class_named units name
  pub parents_ : (c : ℕ) → d.parent c ≡ parent_of (parents units) c
  pub subclasses_ : (a b : ℕ) → Decides (d.is_subclass a b) (IsSubclass units a b)
  pub joined_ : (a b : ℕ) → IsJoined units a b (d.joined a b)
  pub variables_ : (c : ℕ) (name : List ℕ) → MatchOption (d.variable c name) (HasNoVariable units c name) (IsVariableOf units c name)
  pub methods_ : (c : ℕ) (name : List ℕ) → MatchOption (d.method c name) (SeesNone units c name) (IsSeen units c name)
  pub constructors_ : (c : ℕ) → MatchOption (d.constructor c) (RunsNoConstructor units c) (IsConstructorFor units c)
  pub signatures_ : (m : ℕ) → d.signature m ≡ signature_at units m
