-- What the tables of a program's classes list.
use Rattle.std.specs.Prelude.{ℕ, ◌+◌, ℤ, Bool, ◌&&◌, if◌then◌else◌, List, [], ◌∷◌, ◌++◌, map, filter, filter_map, Option, Some, None, nat_eq}
use Rattle.std.specs.List.{enumerate_from, position_from, range_with_len}
use Rattle.jd_syntax.specs.JavaTypes.{PlainType, IntType}
use Rattle.jd_syntax.specs.JavaTrees.{JavaClass, JavaUnit}
use Rattle.jd_jclasses.specs.Classes.{DeclaredClass, class_names, declared_classes, parent_by, prelude, prelude_count}
use Rattle.jd_jclasses.specs.Members.{Kind, FieldOf, ConstantOf, RoutineOf, Declared, declared_members, is_constructor, is_field, is_method, is_routine, is_static, parameter_types, result_of}
use Rattle.jd_jclasses.specs.Methods.{fields, routines}

-- ---- what a class declares itself

-- its fields, constants, constructor and methods; fields by their numbers among all fields, routines among all routines
pub record PlainOwnMembers : Type 0 where
  pub fields : List ℕ
  pub constants : List (List ℕ × ℤ)
  pub constructor : Option ℕ
  pub methods : List ℕ

abbrev pub own_nothing : PlainOwnMembers
own_nothing = record { fields = []; constants = []; constructor = None; methods = [] }

-- the places of those of a list that pass the test, where the first of the list has this place
abbrev pub places_from : ℕ → (Declared → Bool) → List Declared → List ℕ
places_from n test [] = []
places_from n test (m ∷ ms) = if test m then n ∷ places_from (n + 1) test ms else places_from (n + 1) test ms

abbrev pub is_of : ℕ → Declared → Bool
is_of class m = nat_eq class m.class

abbrev pub is_method_of : ℕ → Declared → Bool
is_method_of class m = is_method m.kind && is_of class m

abbrev pub is_constructor_of : ℕ → Declared → Bool
is_constructor_of class m = is_constructor m.kind && is_of class m

-- the name and the value of a constant
abbrev pub constant_with : List ℕ → Kind → Option (List ℕ × ℤ)
constant_with name (FieldOf t) = None
constant_with name (ConstantOf n) = Some (name, n)
constant_with name (RoutineOf m) = None

abbrev pub constant_of : Declared → Option (List ℕ × ℤ)
constant_of m = constant_with m.name.name m.kind

-- of these members; fields and routines are numbered from these numbers on
abbrev pub own_from : ℕ → ℕ → List Declared → ℕ → PlainOwnMembers
own_from field routine ms class = record {
  fields = places_from field (is_of class) (filter (λ m. is_field m.kind) ms);
  constants = filter_map constant_of (filter (is_of class) ms);
  constructor = position_from (is_constructor_of class) routine (filter (λ m. is_routine m.kind) ms);
  methods = places_from routine (is_method_of class) (filter (λ m. is_routine m.kind) ms);
}

-- where these are all members
abbrev pub own_of : List Declared → ℕ → PlainOwnMembers
own_of ms class = own_from 0 0 ms class

-- of the first so many classes
abbrev pub own_of_each : List Declared → ℕ → List PlainOwnMembers
own_of_each ms classes = map (own_of ms) (range_with_len 0 classes)

-- ---- fields and routines

-- the name, the class and the type of a field
pub record PlainFieldInfo : Type 0 where
  pub name : List ℕ
  pub class : ℕ
  pub ty : PlainType

-- the type of a field; a constant is an int, and nothing is asked of a routine
abbrev pub variable_type : Kind → PlainType
variable_type (FieldOf t) = t
variable_type (ConstantOf n) = IntType
variable_type (RoutineOf m) = IntType

abbrev pub field_info : Declared → PlainFieldInfo
field_info m = record { name = m.name.name; class = m.class; ty = variable_type m.kind }

-- of all fields, by their numbers
abbrev pub field_infos : List JavaUnit → List PlainFieldInfo
field_infos units = map field_info (fields units)

-- the name and the class of a method or constructor, the place of its declaration among its class's members,
-- whether it is static, whether it is a constructor, and the types of its parameters and result
pub record PlainMethodInfo : Type 0 where
  pub name : List ℕ
  pub class : ℕ
  pub member : ℕ
  pub static : Bool
  pub constructor : Bool
  pub params : List PlainType
  pub result : Option PlainType

abbrev pub method_info : Declared → PlainMethodInfo
method_info m = record {
  name = m.name.name;
  class = m.class;
  member = m.member;
  static = is_static m.kind;
  constructor = is_constructor m.kind;
  params = parameter_types m.kind;
  result = result_of m.kind;
}

-- of all routines, by their numbers
abbrev pub method_infos : List JavaUnit → List PlainMethodInfo
method_infos units = map method_info (routines units)

-- ---- classes

-- the name of a class, what it extends, its file, its declaration, and its own members
pub record PlainClassInfo : Type 0 where
  pub name : List ℕ
  pub parent : Option ℕ
  pub file : ℕ
  pub decl : Option JavaClass
  pub own : PlainOwnMembers

-- a class that is always there: it declares nothing
abbrev pub prelude_info : List ℕ × Option ℕ → PlainClassInfo
prelude_info p = record { name = p.0; parent = p.1; file = 0; decl = None; own = own_nothing }

-- a class of the files, with its number
abbrev pub declared_info : List JavaUnit → ℕ × DeclaredClass → PlainClassInfo
declared_info units e = record {
  name = e.1.tree.name.name;
  parent = parent_by (class_names units) e.1.tree.parent;
  file = e.1.file;
  decl = Some e.1.tree;
  own = own_of (declared_members units) e.0;
}

-- of all classes, by their numbers
abbrev pub class_infos : List JavaUnit → List PlainClassInfo
class_infos units = map prelude_info prelude ++ map (declared_info units) (enumerate_from prelude_count (declared_classes units))
