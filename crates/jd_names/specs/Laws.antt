-- What is written for each name names it.
use Rattle.std.specs.Prelude.{◌≡◌, ◌<◌, ℕ, true, false, List, length, Some}
use Rattle.std.specs.List.{slice_get}
use Rattle.jd_ancestry.specs.Depths.{IsDepths}
use Rattle.jd_base.specs.declared.sort.Sort.{Sort}
use Rattle.jd_syntax.specs.JavaTrees.{JavaUnit}
use Rattle.jd_syntax.specs.Names.{Name}
use Rattle.jd_jclasses.specs.Classes.{class_names, parents}
use Rattle.jd_jclasses.specs.Members.{is_constructor, is_method, is_static}
use Rattle.jd_jclasses.specs.Methods.{IsSeen, RoutineAt, fields}
use Rattle.jd_jclasses.specs.Refusals.{AreClasses}
use Rattle.jd_tgrammar.specs.NameTables.{NameTable}
use Rattle.jd_tgrammar.specs.Spelling.{class_word, method_word, routine}
use Rattle.jd_tforms.specs.Known.{IsClass, IsField, IsVariable}
use Rattle.jd_tforms.specs.Naming.{constant_of, constructor_of, method_of, named, not_field, special_sort, static_of}
use Rattle.jd_names.specs.Identifiers.{AreIdentifiers, AreVariables}
use Rattle.jd_names.specs.Tables.{name_table, program_tables}

-- each class, field and routine of the program is the one that its word names
pub record MembersAreKnown (units : List JavaUnit) (names : NameTable) : Type 0 where
  pub classes_ : (c : ℕ) → c < length (class_names units) → IsClass names c
  pub fields_ : (f : ℕ) → f < length (fields units) → IsField names f
  -- a method that is not static, by each class that sees it
  pub methods_ : (c m : ℕ) (name : List ℕ) → c < length (class_names units) → IsSeen units c name m → RoutineAt units m (λ r. is_static r.kind ≡ false) → method_of names (method_word names c m) ≡ Some (c, m)
  pub statics_ : (m : ℕ) → RoutineAt units m (λ r. (is_method r.kind ≡ true) × (is_static r.kind ≡ true)) → static_of names (method_word names (routine names m).class m) ≡ Some m
  pub constructors_ : (m : ℕ) → RoutineAt units m (λ r. is_constructor r.kind ≡ true) → constructor_of names (class_word names (routine names m).class) ≡ Some m

-- of a program whose classes and members are called by identifiers; of a method's variables; and of names that tell their sort
pub record NamesAreKnown : Type 0 where
  pub members_ : (units : List JavaUnit) (depths : List ℕ) (variables : List Name) → AreClasses units → IsDepths (parents units) depths → AreIdentifiers units → MembersAreKnown units (name_table (program_tables units) variables)
  pub variables_ : (names : NameTable) → AreVariables names.variables → (i : ℕ) (x : Name) → slice_get names.variables i ≡ Some x → IsVariable names x
  pub special_ : (names : NameTable) (w : List ℕ) (s : Sort) → special_sort 64 w ≡ Some s → not_field s ≡ Some s → IsVariable names (named w s)
  pub constants_ : (w : List ℕ) (s : Sort) → special_sort 35 w ≡ Some s → constant_of w ≡ Some (named w s)
