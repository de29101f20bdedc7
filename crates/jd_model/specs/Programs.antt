-- Programs: what the class tables and the bodies of the files tell to a run.
use Rattle.std.specs.Prelude.{ℕ, Bool, true, false, nat_eq, Option, List}
use Rattle.std.specs.List.{list_any}
use Rattle.jd_base.specs.declared.sort.Sort.{Sort}
use Rattle.jd_base.specs.declared.sort.Sort.TheVariants.{Int as IntSort, Bool as BoolSort, Ref as RefSort}
use Rattle.jd_syntax.specs.Names.{Name}
use Rattle.jd_syntax.specs.Codes.{PlainKind, OfClass, IntArray, PlainCode}
use Rattle.jd_heap.specs.References.{Reference, Null, Object, Array}

-- the type of a field, a parameter or a result (JLS 4.1)
pub data ValueType : Type 0 where
  IntType BooleanType : ValueType
  ReferenceType : PlainKind → ValueType

-- a method's body: the variables of its receiver and its parameters, the sort of its result and its code
pub record Body : Type 0 where
  pub receiver : Option Name
  pub parameters : List Name
  pub result : Sort
  pub code : PlainCode

-- classes, fields and methods are numbers
pub record Program : Type 0 where
  -- a class and the classes above it, Object first (JLS 8.1.4)
  pub superclasses : ℕ → List ℕ
  pub object : ℕ
  pub throwable : ℕ
  -- the classes of what the machine throws
  pub null_pointer : ℕ
  pub arithmetic : ℕ
  pub bounds : ℕ
  pub cast : ℕ
  pub negative_size : ℕ
  -- the declared type of a field, and whether a class or one above it declares it
  pub field_type : ℕ → ValueType
  pub has_field : ℕ → ℕ → Bool
  -- the method that a call of the method runs on an object of the class (JLS 15.12.4.4)
  pub lookup : ℕ → ℕ → Option ℕ
  pub body : ℕ → Option Body

abbrev pub type_sort : ValueType → Sort
type_sort IntType = IntSort
type_sort BooleanType = BoolSort
type_sort (ReferenceType k) = RefSort

abbrev pub field_sort : Program → ℕ → Sort
field_sort p f = type_sort (p.field_type f)

-- a class is the other or stands below it
abbrev pub is_subclass : Program → ℕ → ℕ → Bool
is_subclass p c d = list_any (nat_eq d) (p.superclasses c)

-- the class whose methods a call on the reference runs; arrays have those of Object (JLS 10.7)
abbrev pub class_of : Program → Reference → ℕ
class_of p Null = p.object
class_of p (Object c n) = c
class_of p (Array l n) = p.object

-- an object is an instance of its class and of those above it, an array of `int[]` and of Object (JLS 4.10.3, 15.20.2)
abbrev pub is_instance : Program → PlainKind → Reference → Bool
is_instance p k Null = false
is_instance p (OfClass d) (Object c n) = is_subclass p c d
is_instance p IntArray (Object c n) = false
is_instance p (OfClass d) (Array l n) = nat_eq d p.object
is_instance p IntArray (Array l n) = true

-- the reference is of this very class, or an array
abbrev pub is_exactly : PlainKind → Reference → Bool
is_exactly (OfClass d) (Object c n) = nat_eq c d
is_exactly IntArray (Array l n) = true
is_exactly k r = false
