-- The tables that a call graph is made of.
use Rattle.std.specs.Prelude.{◌≡◌, ℕ, List, length, filter, Option}
use Rattle.jd_syntax.specs.JavaTrees.{JavaUnit}
use Rattle.jd_jclasses.specs.Classes.{class_names}
use Rattle.jd_jclasses.specs.Members.{Declared, is_routine}
use Rattle.jd_jseen.specs.Tables.{AreTables}

-- the tables of classes and members, and the names of the classes
pub record AreNamedTables (units : List JavaUnit) (classes : List (List ℕ)) (extended : List (Option ℕ)) (members : List Declared) (names : List ℕ) (count : ℕ) : Type 0 where
  pub tables : AreTables units extended members names count
  pub classes_are : classes ≡ class_names units

-- how many methods and constructors there are
abbrev pub routine_count : List Declared → ℕ
routine_count members = length (filter (λ m. is_routine m.kind) members)
