-- The names that terms and code may use.
use Rattle.std.specs.Prelude.{ℕ, List, ◌∷◌, ◌++◌, Bool, Option}
use Rattle.jd_base.specs.declared.sort.Sort.{Sort}
use Rattle.jd_syntax.specs.Names.{Name}

-- a field: the number of its class, its name, and the sort of its values
pub record FieldName : Type 0 where
  pub class : ℕ
  pub name : List ℕ
  pub sort : Sort

-- a method or constructor: the number of its class, its name, the sorts of its parameters and of its result
pub record RoutineName : Type 0 where
  pub class : ℕ
  pub name : List ℕ
  pub static : Bool
  pub constructor : Bool
  pub parameters : List Sort
  pub result : Option Sort

-- classes, fields and routines by their numbers; the routine that a class sees by a name; the variables
pub record NameTable : Type 0 where
  pub classes : List (List ℕ)
  pub fields : List FieldName
  pub routines : List RoutineName
  pub seen : ℕ → List ℕ → Option ℕ
  pub variables : List Name

-- `C.m`
abbrev pub member_word : List ℕ → List ℕ → List ℕ
member_word class name = class ++ 46 ∷ name
