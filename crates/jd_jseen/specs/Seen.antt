-- What each class of a program sees: of each name the method, and the constructor that runs for it.
use Rattle.std.specs.Prelude.{◌≡◌, ◌+◌, ◌*◌, ◌<◌, ℕ, List, length, Option, Some, slice_index, MatchOption}
use Rattle.std.specs.List.{slice_get}
use Rattle.jd_syntax.specs.JavaTrees.{JavaUnit}
use Rattle.jd_jclasses.specs.CallGraph.{DeclaresConstructor, IsConstructorFor}
use Rattle.jd_jclasses.specs.Classes.{parents, IsSubclass}
use Rattle.jd_jclasses.specs.Members.{Declared, declared_members}
use Rattle.jd_jclasses.specs.Methods.{IsSeen, SeesNone}
use Rattle.jd_nearest.specs.Nearest.{column}
use Rattle.jd_jseen.specs.declared.seen.Seen.{Seen}

-- no constructor runs for the class
abbrev pub RunsNone : List JavaUnit → ℕ → Type 0
RunsNone units class = (owner m : ℕ) → IsSubclass units class owner → DeclaresConstructor units owner m → ⊥

-- each class has a row of cells: one for each name, with the method that it sees, and the last with the constructor that runs for it
pub record AreSeen (units : List JavaUnit) (names : List ℕ) (count : ℕ) (cells : List (Option ℕ)) : Type 0 where
  pub each : length cells ≡ length (parents units) * (count + 1)
  pub methods : (class i : ℕ) (a : Declared) → class < length (parents units) → slice_get (declared_members units) i ≡ Some a
      → MatchOption (column (count + 1) cells (slice_index names i) class) (SeesNone units class a.name.name) (IsSeen units class a.name.name)
  pub constructors : (class : ℕ) → class < length (parents units) → MatchOption (column (count + 1) cells count class) (RunsNone units class) (IsConstructorFor units class)

-- the numbers of names, and the rows of all classes, one behind the other
abbrev pub name_count : Seen → ℕ
name_count s = s.names

abbrev pub cells_of : Seen → List (Option ℕ)
cells_of s = s.cells.items
