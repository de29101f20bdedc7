-- The members of a program's classes, in the order of the files.
use Rattle.std.specs.Prelude.{ℕ, suc, ℤ, Bool, true, false, not, List, [], ◌∷◌, ◌++◌, map, Option, Some, None}
use Rattle.jd_syntax.specs.JavaTypes.{PlainIdentifier, PlainType}
use Rattle.jd_syntax.specs.JavaTrees.{JavaResult, Void, Gives, OfConstructor, JavaMethod, JavaMember, FieldMember, ConstantMember, MethodMember, JavaUnit}
use Rattle.jd_jclasses.specs.Classes.{DeclaredClass, declared_classes, prelude_count}

-- what is declared: a field, a constant, or a method or constructor
pub data Kind : Type 0 where
  FieldOf : PlainType → Kind
  ConstantOf : ℤ → Kind
  RoutineOf : JavaMethod → Kind

-- the class that declares it, its file, the place of its declaration among the class's members from 0, its name, and what it is
pub record Declared : Type 0 where
  pub class : ℕ
  pub file : ℕ
  pub member : ℕ
  pub name : PlainIdentifier
  pub kind : Kind

abbrev pub of_member : ℕ → ℕ → ℕ → JavaMember → List Declared
of_member class file place (FieldMember f) = map (λ x. record { class = class; file = file; member = place; name = x; kind = FieldOf f.ty.written }) f.names
of_member class file place (ConstantMember c) = record { class = class; file = file; member = place; name = c.name; kind = ConstantOf c.value } ∷ []
of_member class file place (MethodMember m) = record { class = class; file = file; member = place; name = m.name; kind = RoutineOf m } ∷ []

abbrev pub of_members : ℕ → ℕ → ℕ → List JavaMember → List Declared
of_members class file place [] = []
of_members class file place (m ∷ ms) = of_member class file place m ++ of_members class file (suc place) ms

-- of classes of which the first has this number
abbrev pub of_classes : ℕ → List DeclaredClass → List Declared
of_classes class [] = []
of_classes class (d ∷ ds) = of_members class d.file 0 d.tree.members ++ of_classes (suc class) ds

-- all that is declared, in the order of the files; the classes that are always there declare nothing
abbrev pub declared_members : List JavaUnit → List Declared
declared_members units = of_classes prelude_count (declared_classes units)

-- ---- what something is

abbrev pub builds : JavaResult → Bool
builds Void = false
builds (Gives t) = false
builds OfConstructor = true

-- a field or a constant
abbrev pub is_variable : Kind → Bool
is_variable (FieldOf t) = true
is_variable (ConstantOf n) = true
is_variable (RoutineOf m) = false

abbrev pub is_field : Kind → Bool
is_field (FieldOf t) = true
is_field (ConstantOf n) = false
is_field (RoutineOf m) = false

abbrev pub is_constructor : Kind → Bool
is_constructor (FieldOf t) = false
is_constructor (ConstantOf n) = false
is_constructor (RoutineOf m) = builds m.result

abbrev pub is_method : Kind → Bool
is_method (FieldOf t) = false
is_method (ConstantOf n) = false
is_method (RoutineOf m) = not (builds m.result)

abbrev pub is_routine : Kind → Bool
is_routine (FieldOf t) = false
is_routine (ConstantOf n) = false
is_routine (RoutineOf m) = true

-- ---- what methods are compared by (JLS 8.4.2, 8.4.5, 8.4.3.2)

-- the types of the parameters; none of what has none
abbrev pub parameter_types : Kind → List PlainType
parameter_types (FieldOf t) = []
parameter_types (ConstantOf n) = []
parameter_types (RoutineOf m) = map (λ p. p.ty.written) m.parameters

-- the type of the result, None for void
abbrev pub result_type : JavaResult → Option PlainType
result_type Void = None
result_type (Gives t) = Some t.written
result_type OfConstructor = None

abbrev pub result_of : Kind → Option PlainType
result_of (FieldOf t) = None
result_of (ConstantOf n) = None
result_of (RoutineOf m) = result_type m.result

abbrev pub is_static : Kind → Bool
is_static (FieldOf t) = false
is_static (ConstantOf n) = false
is_static (RoutineOf m) = m.is_static
