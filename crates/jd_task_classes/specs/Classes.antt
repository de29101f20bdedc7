-- What a task tells of the classes of its program, and of its methods by them.
use Rattle.std.specs.Prelude.{Bool, List, None, Option, Some, codes, if◌then◌else◌, map, option_map, ℕ}
use Rattle.std.specs.List.{slice_get}
use Rattle.std.specs.Option.{unwrap_or}
use Rattle.jd_base.specs.declared.sort.Sort.{Sort}
use Rattle.jd_reach.specs.Graphs.{edge}
use Rattle.jd_reach.specs.Rows.{within}
use Rattle.jd_jclasses.specs.Classes.{class_in}
use Rattle.jd_jinfos.specs.Infos.{PlainClassInfo, PlainMethodInfo}
use Rattle.jd_classes.specs.Tables.{family_of, listed_classes, listed_fields, listed_methods}
use Rattle.jd_classes.specs.declared.classes.Classes.{Classes}
use Rattle.jd_names.specs.Tables.{ClassTables, class_name, sort_of}
use Rattle.jd_task_classes.specs.Methods.{Constructor, InstanceMethod, MethodKind, PlainMethods, StaticMethod}

-- the tables of classes, fields and routines; of each routine its family; of two families whether the first reaches the second
pub record PlainClasses : Type 0 where
  pub tables : ClassTables
  pub families : ℕ → ℕ
  pub reaches : ℕ → ℕ → Bool

abbrev pub tables_view : Classes → ClassTables
tables_view c = record { classes = listed_classes c; fields = listed_fields c; routines = listed_methods c }

abbrev pub classes_view : Classes → PlainClasses
classes_view c = record { tables = tables_view c; families = family_of c; reaches = within c.families.count (edge c.graph) }

-- ---- classes by name

abbrev pub named_in : ClassTables → List ℕ → Option ℕ
named_in t name = class_in (map class_name t.classes) name

-- what each class extends
abbrev pub parents_in : ClassTables → List (Option ℕ)
parents_in t = map (λ (c : PlainClassInfo). c.parent) t.classes

-- ---- methods and constructors

abbrev pub kind_of : PlainMethodInfo → MethodKind
kind_of m = if m.constructor then Constructor else if m.static then StaticMethod else InstanceMethod

abbrev pub class_of : PlainMethodInfo → ℕ
class_of m = m.class

abbrev pub result_of : PlainMethodInfo → Option Sort
result_of m = option_map sort_of m.result

-- of the routine of a number, or of a number that no routine has
abbrev pub of_routine : {A : Type 0} → A → (PlainMethodInfo → A) → Option PlainMethodInfo → A
of_routine none some None = none
of_routine none some (Some m) = some m

abbrev pub methods_of : PlainClasses → PlainMethods
methods_of k = record {
  kind = λ m. of_routine StaticMethod kind_of (slice_get k.tables.routines m);
  class = λ m. of_routine 0 class_of (slice_get k.tables.routines m);
  result = λ m. of_routine None result_of (slice_get k.tables.routines m);
  family = k.families;
  reaches = k.reaches;
  null_pointer = unwrap_or (named_in k.tables (codes "NullPointerException")) 0;
}
