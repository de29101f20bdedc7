-- What the text of terms and code calls the classes, fields, methods and constructors of a program.
use Rattle.std.specs.Prelude.{ℕ, zero, suc, Bool, not, ◌&&◌, nat_eq, List, length, map, Option, None, option_map}
use Rattle.std.specs.List.{slice_get}
use Rattle.std.specs.Option.{option_and_then, option_or}
use Rattle.std.specs.Str.{bytes_eq}
use Rattle.jd_base.specs.declared.sort.Sort.{Sort}
use Rattle.jd_base.specs.declared.sort.Sort.TheVariants.{Int as IntSort, Bool as BoolSort, Ref as RefSort}
use Rattle.jd_syntax.specs.JavaTypes.{PlainType, IntType, BooleanType, IntArrayType, NamedType}
use Rattle.jd_syntax.specs.JavaTrees.{JavaUnit}
use Rattle.jd_syntax.specs.Names.{Name}
use Rattle.jd_jinfos.specs.Infos.{PlainClassInfo, PlainFieldInfo, PlainMethodInfo, class_infos, field_infos, method_infos}
use Rattle.jd_tgrammar.specs.NameTables.{NameTable, FieldName, RoutineName}
use Rattle.jd_tforms.specs.Naming.{number_where}

-- what tables list: classes, fields, and methods with constructors, each by their numbers
pub record ClassTables : Type 0 where
  pub classes : List PlainClassInfo
  pub fields : List PlainFieldInfo
  pub routines : List PlainMethodInfo

-- the tables of the program whose files have these trees
abbrev pub program_tables : List JavaUnit → ClassTables
program_tables units = record { classes = class_infos units; fields = field_infos units; routines = method_infos units }

-- ---- names

-- the sort of the values of a type
abbrev pub sort_of : PlainType → Sort
sort_of IntType = IntSort
sort_of BooleanType = BoolSort
sort_of IntArrayType = RefSort
sort_of (NamedType name) = RefSort

abbrev pub class_name : PlainClassInfo → List ℕ
class_name c = c.name

abbrev pub field_name : PlainFieldInfo → FieldName
field_name f = record { class = f.class; name = f.name; sort = sort_of f.ty }

abbrev pub routine_name : PlainMethodInfo → RoutineName
routine_name m = record {
  class = m.class;
  name = m.name;
  static = m.static;
  constructor = m.constructor;
  parameters = map sort_of m.params;
  result = option_map sort_of m.result;
}

-- ---- the method that a class sees by a name (JLS 8.2, 8.4.8)

-- the class declares the method of the name
abbrev pub declares : ℕ → List ℕ → PlainMethodInfo → Bool
declares class name m = not m.constructor && nat_eq class m.class && bytes_eq m.name name

-- what the class extends
abbrev pub extended : List PlainClassInfo → ℕ → Option ℕ
extended classes c = option_and_then (λ i. i.parent) (slice_get classes c)

-- that of the first among so many classes, from this one up, that declares one
abbrev pub nearest : ClassTables → ℕ → List ℕ → ℕ → Option ℕ
nearest t zero name c = None
nearest t (suc n) name c = option_or (number_where (declares c name) t.routines) (option_and_then (nearest t n name) (extended t.classes c))

-- that of the class, or of the nearest of its ancestors that declares one
abbrev pub sees : ClassTables → ℕ → List ℕ → Option ℕ
sees t c name = nearest t (length t.classes) name c

-- ---- the names of all

-- where the code has these variables
abbrev pub name_table : ClassTables → List Name → NameTable
name_table t variables = record {
  classes = map class_name t.classes;
  fields = map field_name t.fields;
  routines = map routine_name t.routines;
  seen = sees t;
  variables = variables;
}
