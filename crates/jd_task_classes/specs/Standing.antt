-- When what a task tells of classes stands for a program.
use Rattle.std.specs.Prelude.{Bool, List, None, Option, Some, codes, false, length, nat_eq, reverse, ◌<◌, ◌≡◌, ◌≤◌, ℕ, []}
use Rattle.std.specs.List.{list_any, slice_get}
use Rattle.jd_base.specs.declared.sort.Sort.{Sort}
use Rattle.jd_base.specs.declared.sort.Sort.TheVariants.{Int as IntSort}
use Rattle.jd_classes.specs.Fields.{IsLineage}
use Rattle.jd_jinfos.specs.Infos.{PlainFieldInfo, PlainMethodInfo}
use Rattle.jd_model.specs.Cases.{SpecifiedProgram}
use Rattle.jd_model.specs.Programs as model
use Rattle.jd_model.specs.Programs.{Body, Program, ValueType}
use Rattle.jd_names.specs.Tables.{ClassTables, sees, sort_of}
use Rattle.jd_syntax.specs.Codes.{IntArray, OfClass, PlainKind}
use Rattle.jd_syntax.specs.JavaTypes.{BooleanType, IntArrayType, IntType, NamedType, PlainType}
use Rattle.jd_task_classes.specs.Classes.{PlainClasses, methods_of, named_in, parents_in}
use Rattle.jd_task_classes.specs.Methods.{MethodsStandFor}
use Rattle.jd_task_classes.specs.ResolvedCalls.{CallsAreResolved}

-- a class and those above it, Object first (JLS 8.1.4); a number past them is no class's; and the classes of what the machine throws,
-- by their names (JLS 11.1.3, 15.6)
pub record AreItsClasses (t : ClassTables) (p : Program) : Type 0 where
  pub superclasses : (c : ℕ) → c < length t.classes → IsLineage (parents_in t) c (reverse (p.superclasses c))
  pub no_class : (c : ℕ) → length t.classes ≤ c → p.superclasses c ≡ []
  pub object : named_in t (codes "Object") ≡ Some p.object
  pub throwable : named_in t (codes "Throwable") ≡ Some p.throwable
  pub null_pointer : named_in t (codes "NullPointerException") ≡ Some p.null_pointer
  pub arithmetic : named_in t (codes "ArithmeticException") ≡ Some p.arithmetic
  pub bounds : named_in t (codes "ArrayIndexOutOfBoundsException") ≡ Some p.bounds
  pub cast : named_in t (codes "ClassCastException") ≡ Some p.cast
  pub negative_size : named_in t (codes "NegativeArraySizeException") ≡ Some p.negative_size

-- ---- fields

-- of a name that no class has it is that of arrays, so that there is one; what says such a name is refused
abbrev pub kind_named : Option ℕ → PlainKind
kind_named None = IntArray
kind_named (Some c) = OfClass c

-- what a written type stands for (JLS 4.1)
abbrev pub type_in : ClassTables → PlainType → ValueType
type_in t IntType = model.IntType
type_in t BooleanType = model.BooleanType
type_in t IntArrayType = model.ReferenceType IntArray
type_in t (NamedType name) = model.ReferenceType (kind_named (named_in t name))

-- that of a field; of a number that no field has it is int
abbrev pub field_type_in : ClassTables → Option PlainFieldInfo → ValueType
field_type_in t None = model.IntType
field_type_in t (Some f) = type_in t f.ty

-- one of the classes declares the field
abbrev pub declared_among : List ℕ → Option PlainFieldInfo → Bool
declared_among classes None = false
declared_among classes (Some f) = list_any (nat_eq f.class) classes

-- each has its type, and those classes have it that declare it or stand below the one that does (JLS 8.2)
pub record AreItsFields (t : ClassTables) (p : Program) : Type 0 where
  pub types : (f : ℕ) → p.field_type f ≡ field_type_in t (slice_get t.fields f)
  pub has_field : (c f : ℕ) → p.has_field c f ≡ declared_among (p.superclasses c) (slice_get t.fields f)

-- ---- methods

-- where there is no result, nothing is asked of the sort, and a body has an int's
abbrev pub result_sort : Option PlainType → Sort
result_sort None = IntSort
result_sort (Some t) = sort_of t

-- a call runs the method that the object's class sees by the name of the one that is called (JLS 15.12.4.4), and a body gives what its
-- method does
pub record AreItsMethods (t : ClassTables) (p : Program) : Type 0 where
  pub lookup : (c m : ℕ) (i : PlainMethodInfo) → c < length t.classes → slice_get t.routines m ≡ Some i → p.lookup c m ≡ sees t c i.name
  pub results : (m : ℕ) (i : PlainMethodInfo) (b : Body) → slice_get t.routines m ≡ Some i → p.body m ≡ Some b → b.result ≡ result_sort i.result

-- ---- together

pub record ClassesStandFor (k : PlainClasses) (p : SpecifiedProgram) : Type 0 where
  pub classes : AreItsClasses k.tables p.setting.program
  pub fields : AreItsFields k.tables p.setting.program
  pub methods : AreItsMethods k.tables p.setting.program
  -- kinds, results and families of the methods that have cases, and which families reach which
  pub cases : MethodsStandFor (methods_of k) p
  pub calls : CallsAreResolved p
